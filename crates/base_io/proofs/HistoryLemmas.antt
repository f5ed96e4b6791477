-- The bytes of several histories in sequence.
use Rattle.std.proofs.Common.{ℕ, ◌≡◌, List, [], ◌∷◌, ◌++◌, refl, sym, ap, ◌∙◌, append_assoc, append-nil}
use Rattle.base_io.specs.History.{Event, moved, failed, fetched, bytes_of}

pub bytes_of-append : (xs ys : List Event) → bytes_of (xs ++ ys) ≡ bytes_of xs ++ bytes_of ys
bytes_of-append [] ys = refl
bytes_of-append (moved room bytes ∷ xs) ys = ap (λ b. bytes ++ b) (bytes_of-append xs ys) ∙ sym (append_assoc bytes (bytes_of xs) (bytes_of ys))
bytes_of-append (failed ∷ xs) ys = bytes_of-append xs ys
bytes_of-append (fetched name error ∷ xs) ys = bytes_of-append xs ys

pub bytes_of-moved : (xs : List Event) (room : ℕ) (bytes : List ℕ) → bytes_of (xs ++ moved room bytes ∷ []) ≡ bytes_of xs ++ bytes
bytes_of-moved xs room bytes = bytes_of-append xs (moved room bytes ∷ []) ∙ ap (λ b. bytes_of xs ++ b) (append-nil bytes)
