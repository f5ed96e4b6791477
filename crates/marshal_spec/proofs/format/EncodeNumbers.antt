-- Bounds on the numbers, signed or unsigned, that bytes of a known width encode.
use Rattle.std.proofs.Common.{ℕ, ℤ, pos, negsuc, suc, ◌-◌, ◌*◌, ◌^◌, ◌<◌, ◌≤◌, ◌≡◌, Bool, true, false, List, [], ◌∷◌, length, subst, arith, ltb, ltb-true, ltb-false, pow_mono}
use Rattle.std.proofs.lemmas.Bool.{cond_both}
use Rattle.base_data.specs.model.Bytes.{AreBytes, number, number_in, signed, twos_complement}
use Rattle.base_data.specs.model.Graph.{IsSigned}
use Rattle.base_data.proofs.model.Numbers.{number_below, little_number_below, half_of}

-- A number of `k` bytes is below 256 ^ `k`, in either byte order.
pub number_in_lt : (little : Bool) (bytes : List ℕ) → AreBytes bytes → number_in little bytes < 256 ^ length bytes
number_in_lt true bytes a = little_number_below bytes a
number_in_lt false bytes a = number_below bytes a

-- If `bound` equals 256 ^ `width`, then a number of `width` bytes is below `bound`.
pub number_in_lt-at : (little : Bool) (width bound : ℕ) (bytes : List ℕ) → 256 ^ width ≡ bound → length bytes ≡ width → AreBytes bytes → number_in little bytes < bound
number_in_lt-at little width bound bytes e l a = rw (← e, ← l) (number_in_lt little bytes a)

-- If a number has `k` + 1 bits, then its value in two's complement lies between -2 ^ `k` and 2 ^
-- `k` - 1.
pub IsSigned-twos_complement : (k n : ℕ) → n < 2 ^ k * 2 → IsSigned k (twos_complement (2 ^ k * 2) n)
IsSigned-twos_complement k n h =
    cond_both (ltb (2 * n) (2 ^ k * 2)) (pos n) (negsuc (2 ^ k * 2 - suc n)) (IsSigned k)
    (λ e. omega (arith, ltb-true (2 * n) (2 ^ k * 2) e))
    (λ e. omega (arith, ltb-false (2 * n) (2 ^ k * 2) e))

-- If a signed number fits `j` bits and `j` is at most `k`, then the number fits `k` bits.
pub IsSigned-wider : (j k : ℕ) → j ≤ k → (z : ℤ) → IsSigned j z → IsSigned k z
IsSigned-wider j k h (pos n) s = omega (arith, pow_mono h)
IsSigned-wider j k h (negsuc n) s = omega (arith, pow_mono h)

-- Bytes in two's complement encode a signed number that fits the bits of the bytes.
pub IsSigned-signed : (bytes : List ℕ) → AreBytes bytes → IsSigned (8 * length bytes - 1) (signed bytes)
IsSigned-signed [] a = omega arith
IsSigned-signed (b ∷ bytes) a =
    let P : ℕ → Type 0 = λ m. IsSigned (8 * suc (length bytes) - 1) (twos_complement m (number (b ∷ bytes))) in
    let below : number (b ∷ bytes) < 256 ^ suc (length bytes) = number_below (b ∷ bytes) a in
    subst P (half_of (length bytes))
    (IsSigned-twos_complement (8 * suc (length bytes) - 1) (number (b ∷ bytes)) (rw (← half_of (length bytes)) at below))

-- If bytes have at most `k` + 1 bits, then the signed number of the bytes lies between -2 ^ `k` and
-- 2 ^ `k` - 1.
pub IsSigned-signed_at : (k : ℕ) (bytes : List ℕ) → 8 * length bytes - 1 ≤ k → AreBytes bytes → IsSigned k (signed bytes)
IsSigned-signed_at k bytes h a = IsSigned-wider (8 * length bytes - 1) k h (signed bytes) (IsSigned-signed bytes a)
