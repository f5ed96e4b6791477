-- Lists of bytes that are not empty.
use Rattle.std.proofs.Common.{◌≡◌, ℕ, ◌<◌, ◌==◌, true, List, [], ◌∷◌, ◌++◌, length, get_or, take, refl, sym, length-append, arith}
use Rattle.std.proofs.lemmas.Bool.{eqb-true}
pub use Rattle.marshal_spec.proofs.format.JudgementLaws.{encoded_some}

pub no_bytes : (xs : List ℕ) → true ≡ (length xs == 0) → xs ≡ []
no_bytes [] e = refl
no_bytes (x ∷ xs) e = let none : length (x ∷ xs) ≡ 0 = eqb-true (length (x ∷ xs)) 0 (sym e) in absurd (omega arith)

-- If a list of bytes is not empty, then the list begins with its first byte.
pub prefix_byte :
    (bytes : List ℕ) → 0 < length bytes
    → (more : List ℕ) × (bytes ≡ get_or bytes 0 0 ∷ more) × (take 1 bytes ≡ get_or bytes 0 0 ∷ [])
prefix_byte [] some = absurd (omega arith)
prefix_byte (b ∷ more) some = (more, refl, refl)

-- A line and its line feed have at least one byte.
pub some_line : (line : List ℕ) → 0 < length (line ++ 10 ∷ [])
some_line line = let size = length-append line (10 ∷ []) in omega (arith, size)
