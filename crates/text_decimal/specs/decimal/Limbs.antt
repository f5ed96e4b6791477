-- A number as limbs of 64 bits. The lowest limb comes first.
use Rattle.std.specs.Prelude.{ℕ, zero, suc, ◌+◌, ◌*◌, ◌^◌, ◌≤◌, ◌≡◌, List, slice_index}

-- The weight of limb `i`.
unfoldable pub limb_weight : ℕ → ℕ
limb_weight i = (2 ^ 64) ^ i

-- The number that the first `n` limbs represent.
unfoldable pub number_below : List ℕ → ℕ → ℕ
number_below limbs zero = 0
number_below limbs (suc i) = number_below limbs i + slice_index limbs i * limb_weight i

-- Every limb from `n` on is 0.
abbrev pub AreZeroFrom : List ℕ → ℕ → Type 0
AreZeroFrom limbs n = (i : ℕ) → n ≤ i → slice_index limbs i ≡ 0
