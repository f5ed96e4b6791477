-- Tokens that byte strings encode, one by one (`AllZip Encodes`).
use Rattle.std.proofs.Common.{ℕ, zero, suc, get_or, ◌<◌, List, [], ◌∷◌, length, arith}
use Rattle.std.specs.List.{AllZip}
use Rattle.marshal_spec.specs.format.Token.{Token, Encodes}

-- If byte strings encode tokens one by one, then each byte string encodes a token.
pub encoded_at : (ts : List Token) (chunks : List (List ℕ)) (i : ℕ) (d : List ℕ) → AllZip Encodes ts chunks → i < length chunks
    → (t : Token) × Encodes t (get_or chunks i d)
encoded_at [] [] i d z l = absurd (omega arith)
encoded_at [] (chunk ∷ chunks) i d z l = absurd z
encoded_at (t ∷ ts) [] i d z l = absurd z
encoded_at (t ∷ ts) (chunk ∷ chunks) zero d z l = (t, z.0)
encoded_at (t ∷ ts) (chunk ∷ chunks) (suc i) d z l = encoded_at ts chunks i d z.1 (omega arith)
