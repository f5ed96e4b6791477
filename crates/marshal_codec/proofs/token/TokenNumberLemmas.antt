-- `from_be_bytes` and `number` decode eight bytes to one number.
use Rattle.std.proofs.Common.{◌≡◌, List, ℕ, [], ◌∷◌, length, arith}
use Rattle.std.specs.Int.{w64, from_be_bytes}
use Rattle.base_data.specs.model.Bytes.{number}

pub big_eight : (bytes : List ℕ) → length bytes ≡ 8 → from_be_bytes w64 bytes ≡ number bytes
big_eight (a ∷ b ∷ c ∷ d ∷ e ∷ f ∷ g ∷ h ∷ []) e8 = omega arith
big_eight [] e8 = absurd (omega arith)
big_eight (a ∷ []) e8 = absurd (omega arith)
big_eight (a ∷ b ∷ []) e8 = absurd (omega arith)
big_eight (a ∷ b ∷ c ∷ []) e8 = absurd (omega arith)
big_eight (a ∷ b ∷ c ∷ d ∷ []) e8 = absurd (omega arith)
big_eight (a ∷ b ∷ c ∷ d ∷ e ∷ []) e8 = absurd (omega arith)
big_eight (a ∷ b ∷ c ∷ d ∷ e ∷ f ∷ []) e8 = absurd (omega arith)
big_eight (a ∷ b ∷ c ∷ d ∷ e ∷ f ∷ g ∷ []) e8 = absurd (omega arith)
big_eight (a ∷ b ∷ c ∷ d ∷ e ∷ f ∷ g ∷ h ∷ x ∷ xs) e8 = absurd (omega arith)
