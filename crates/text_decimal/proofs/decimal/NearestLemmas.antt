-- Rounding is monotone: a greater number has no lesser double. A number therefore has one double. A
-- number between two numbers of one double has the double.
use Rattle.std.proofs.Common.{◌≡◌, ℕ, ◌+◌, ◌-◌, ◌*◌, ◌^◌, ◌<◌, ◌≤◌, false, T, sym, ap, ◌∙◌, subst, inl, inr, arith}
use Rattle.std.proofs.lemmas.Bool.{cases_lt}
use Rattle.std.proofs.lemmas.Float.{lt_irrefl, lt_of_lt_of_le}
use Rattle.std.specs.Float.Order.{lt_at}
use native.Mathlib.Nat.{mul-lt-mul_of_pos_right, mul-le-mul_right, mul_assoc}
use lib.Dec.{lit<, lt→ltb}
use lib.Pow.{pow-add}
use lib.Ieee.{binary64, of_bits, round, le}
use lib.Ieee.Order.{round_mono}
use lib.Ieee.Scale.{round_same}
use Rattle.fast_float.specs.Rounding.{IsNearestBits}
use Rattle.fast_float.proofs.Patterns.{infinite}
use Rattle.fast_float.proofs.ExactLemmas.{ten_to_pos}
use Rattle.fast_float.proofs.Extremes.{nearest_of_huge, tens_eq, tens_le}
use Rattle.text_decimal.specs.decimal.Doubles.{units_of, IsSome, IsNearest, Reads}
use lib.Ieee.Bits.{of_bits-fits}
use lib.Ieee.Fits.{round-fits}
use Rattle.text_decimal.proofs.decimal.DecimalLevelLemmas.{same_value, value_of_level}
use Rattle.text_decimal.proofs.decimal.DecimalSizeLemmas.{units_lt, value_of_size, no_infinity}

-- If one finite double is at most another double, then the size of the first double is at most the
-- size of the second.
size_le : (x y : ℕ) → x < 2047 * 2 ^ 52 → y < 2047 * 2 ^ 52 → T (le (of_bits binary64 x) (of_bits binary64 y)) → x ≤ y
size_le x y X Y h =
    elim (cases_lt y x) [
      | inr l ↦ l
      | inl g ↦
          let u = of_bits binary64 x in
          let v = of_bits binary64 y in
          let is = lt_at v u (units_of y) (2 ^ 1074) (units_of x) (2 ^ 1074) (lit< tt) (lit< tt) (value_of_size y Y) (value_of_size x X) in
          let less : units_of y * 2 ^ 1074 < units_of x * 2 ^ 1074 = mul-lt-mul_of_pos_right (units_lt y x g) (lit< tt) in
          absurd (lt_irrefl v (lt_of_lt_of_le v u v (subst T (sym is) (lt→ltb _ _ less)) h))
    ]

pub nearest_mono : (a b c d x y : ℕ) → 0 < b → 0 < d → a * d ≤ c * b → IsNearestBits binary64 a b x → IsNearestBits binary64 c d y → x ≤ y
nearest_mono a b c d x y B D h p q =
    let order : T (le (of_bits binary64 x) (of_bits binary64 y)) =
    subst (λ v. T (le v (of_bits binary64 y))) (sym p.0) (subst (λ v. T (le (round binary64 false a b) v)) (sym q.0) (round_mono binary64 a b c d B D h)) in
    elim (cases_lt y (2047 * 2 ^ 52)) [
      | inr Y ↦ omega (arith, p.1)
      | inl Y ↦ elim (cases_lt x (2047 * 2 ^ 52)) [
        | inl X ↦ size_le x y X Y order
        | inr X ↦
            let e : x ≡ 2047 * 2 ^ 52 = omega (arith, p.1) in
            absurd (no_infinity _ _ _ (value_of_size y Y) (subst (λ v. T (le v (of_bits binary64 y))) (ap (of_bits binary64) e ∙ infinite binary64) order))
      ]
    ]

-- If two doubles are nearest to one number, then the two doubles are equal.
pub one_nearest : (a b x y : ℕ) → 0 < b → IsNearestBits binary64 a b x → IsNearestBits binary64 a b y → x ≡ y
one_nearest a b x y B p q = omega (arith, nearest_mono a b a b x y B B (omega arith) p q, nearest_mono a b a b y x B B (omega arith) q p)

-- If two decimals have one power, then the decimal with more digits has no lesser double.
pub power_mono : (x y power d e : ℕ) → d ≤ e → IsNearest x d power → IsNearest y e power → x ≤ y
power_mono x y power d e h p q =
    nearest_mono _ _ _ _ x y (ten_to_pos (342 - power)) (ten_to_pos (342 - power)) (mul-le-mul_right (10 ^ (342 - power)) (mul-le-mul_right (10 ^ (power - 342)) h)) p q

-- If the power is lowered by `k` and the digits are multiplied by 10 ^ `k`, then the number is
-- unchanged.
moved : (digits power k : ℕ) → digits * 10 ^ (power + k - 342) * 10 ^ (342 - power) ≡ digits * 10 ^ k * 10 ^ (power - 342) * 10 ^ (342 - (power + k))
moved digits power k =
    tens_eq digits (power + k - 342) (342 - power) (k + (power - 342)) (342 - (power + k)) (omega arith)
    ∙ ap (λ x. x * 10 ^ (342 - (power + k))) (ap (λ x. digits * x) (pow-add 10 k (power - 342)) ∙ sym (mul_assoc digits (10 ^ k) (10 ^ (power - 342))))

-- If a decimal is written with a lower power, then the nearest double is unchanged.
pub lowered : (size digits power k : ℕ) → IsNearest size digits (power + k) → IsNearest size (digits * 10 ^ k) power
lowered size digits power k p =
    (p.0 ∙ round_same binary64 false _ _ _ _ (ten_to_pos (342 - (power + k))) (ten_to_pos (342 - power)) (moved digits power k), p.1)

-- If a decimal is written with a higher power, then the nearest double is unchanged.
pub lifted : (size digits power k : ℕ) → IsNearest size (digits * 10 ^ k) power → IsNearest size digits (power + k)
lifted size digits power k p =
    (p.0 ∙ round_same binary64 false _ _ _ _ (ten_to_pos (342 - power)) (ten_to_pos (342 - (power + k))) (sym (moved digits power k)), p.1)

huge : (digits power : ℕ) → 0 < digits → 651 ≤ power → 10 ^ 309 * 10 ^ (342 - power) ≤ digits * 10 ^ (power - 342)
huge digits power some g = omega (arith, tens_le 1 digits 309 (342 - power) (power - 342) 0 some (omega arith))

-- If a decimal reads as a finite double, then its power is below 651.
pub few_powers : (size digits power : ℕ) → IsSome size → Reads size digits power → power < 651
few_powers size digits power some r =
    elim (cases_lt power 651) [
      | inl l ↦ l
      | inr g ↦
          let e = one_nearest _ _ _ _ (ten_to_pos (342 - power)) r.nearest (nearest_of_huge binary64 (digits * 10 ^ (power - 342)) (10 ^ (342 - power)) (ten_to_pos (342 - power)) (huge digits power r.some g)) in
          absurd (omega (arith, some.1, e))
    ]

-- If two decimals read as a double, then a decimal between the two decimals reads as the double.
pub between : (size x y z power : ℕ) → IsSome size → x ≤ y → y ≤ z → IsNearest size x power → IsNearest size z power → IsNearest size y power
between size x y z power some h k p q =
    let v = round binary64 false (y * 10 ^ (power - 342)) (10 ^ (342 - power)) in
    let D = ten_to_pos (342 - power) in
    let low : T (le (of_bits binary64 size) v) = subst (λ u. T (le u v)) (sym p.0) (round_mono binary64 _ _ _ _ D D (mul-le-mul_right (10 ^ (342 - power)) (mul-le-mul_right (10 ^ (power - 342)) h))) in
    let high : T (le v (of_bits binary64 size)) = subst (λ u. T (le v u)) (sym q.0) (round_mono binary64 _ _ _ _ D D (mul-le-mul_right (10 ^ (342 - power)) (mul-le-mul_right (10 ^ (power - 342)) k))) in
    let a : 0 < units_of size = omega (arith, units_lt 0 size some.0) in
    let w = value_of_size size (omega (arith, some.1)) in
    let level = value_of_level (of_bits binary64 size) v (units_of size) (2 ^ 1074) a (lit< tt) w low high in
    (same_value binary64 (of_bits binary64 size) v false (units_of size) (of_bits-fits binary64 size) (round-fits binary64 false _ _) w level, p.1)
