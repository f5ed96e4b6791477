-- If a decimal is no farther from the double than each neighbour that reads as the double, then the
-- decimal is the nearest decimal.
use Rattle.std.proofs.Common.{◌≡◌, ◌≢◌, ℕ, ◌+◌, ◌-◌, ◌*◌, ◌%◌, ◌^◌, ◌<◌, ◌≤◌, inl, inr, arith, subst, sym, ◌∙◌}
use Rattle.std.proofs.lemmas.Bool.{cases_lt}
use native.Mathlib.Nat.{mul-le-mul_right, mul-pos}
use lib.Dec.{lit<}
use Rattle.fast_float.proofs.ExactLemmas.{ten_to_pos}
use Rattle.text_decimal.specs.decimal.Doubles.{IsSome, Reads, IsHighest, IsShortest, double_units, decimal_units, distance, IsNoBetterAbove, IsNoBetterBelow}
use Rattle.text_decimal.proofs.decimal.NearestLemmas.{between}

abbrev pub gap : ℕ → ℕ → ℕ
gap x y = (x - y) + (y - x)

-- If a number is at least one unit above a number that is near enough to the double, then the
-- higher number is no nearer to the double.
above : (x u o y : ℕ) → x + u ≤ o → 2 * y ≤ 2 * x + u → gap x y ≤ gap o y
above x u o y h k = omega arith

above_tie : (x u o y : ℕ) → 0 < u → x + u ≤ o → 2 * y ≤ 2 * x + u → gap x y ≡ gap o y → 2 * y ≡ 2 * x + u
above_tie x u o y p h k e = omega arith

-- If a number is at least one unit below the decimal `x + u`, then the number is no nearer to the
-- double.
below : (x u o y : ℕ) → o ≤ x → 2 * x + u ≤ 2 * y → gap (x + u) y ≤ gap o y
below x u o y h k = omega arith

below_tie : (x u o y : ℕ) → 0 < u → o ≤ x → 2 * x + u ≤ 2 * y → gap (x + u) y ≡ gap o y → 2 * y ≡ 2 * x + u
below_tie x u o y p h k e = omega arith

-- ---- decimals of one power

pub more : (d power : ℕ) → decimal_units (d + 1) power ≡ decimal_units d power + decimal_units 1 power
more d power = omega arith

halfway : (d power : ℕ) → decimal_units (2 * d + 1) power ≡ 2 * decimal_units d power + decimal_units 1 power
halfway d power = omega arith

pub units_mono : (d e power : ℕ) → d ≤ e → decimal_units d power ≤ decimal_units e power
units_mono d e power h = mul-le-mul_right (2 ^ 1074) (mul-le-mul_right (10 ^ (power - 342)) h)

pub some_unit : (power : ℕ) → 0 < decimal_units 1 power
some_unit power =
    let one : 0 < 1 = omega arith in
    let two : 0 < 2 ^ 1074 = lit< tt in
    mul-pos (mul-pos one (ten_to_pos (power - 342))) two

module _ (size digits power : ℕ) (some : IsSome size) (r : Reads size digits power) (up : IsNoBetterAbove size digits power) (down : IsNoBetterBelow size digits power) where
  next_reads : (other : ℕ) → Reads size other power → digits < other → Reads size (digits + 1) power
  next_reads other o l = record {
    some = omega arith;
    few = omega (arith, o.few);
    nearest = between size digits (digits + 1) other power some (omega arith) (omega arith) r.nearest o.nearest;
  }

  before_reads : (other : ℕ) → Reads size other power → other < digits → Reads size (digits - 1) power
  before_reads other o l = record {
    some = omega (arith, o.some);
    few = omega (arith, r.few);
    nearest = between size other (digits - 1) digits power some (omega arith) (omega arith) o.nearest r.nearest;
  }

  closest : (other : ℕ) → Reads size other power → distance size digits power ≤ distance size other power
  closest other o =
      elim (cases_lt digits other) [
        | inl l ↦
            above (decimal_units digits power) (decimal_units 1 power) (decimal_units other power) (double_units size power) (omega (arith, more digits power, units_mono (digits + 1) other power (omega arith)))
            (omega (arith, (up (next_reads other o l)).0, halfway digits power))
        | inr g ↦ elim (cases_lt other digits) [
          | inl l ↦
              let e : digits - 1 + 1 ≡ digits = omega arith in
              let is : decimal_units digits power ≡ decimal_units (digits - 1) power + decimal_units 1 power = subst (λ d. decimal_units d power ≡ decimal_units (digits - 1) power + decimal_units 1 power) e (more (digits - 1) power) in
              rw is (below (decimal_units (digits - 1) power) (decimal_units 1 power) (decimal_units other power) (double_units size power) (units_mono other (digits - 1) power (omega arith)) (omega (arith, (down (before_reads other o l)).0, halfway (digits - 1) power)))
          | inr h ↦ let e : other ≡ digits = omega arith in rw e (omega arith)
        ]
      ]

  even : (other : ℕ) → Reads size other power → other ≢ digits → distance size digits power ≡ distance size other power → digits % 2 ≡ 0
  even other o n same =
      elim (cases_lt digits other) [
        | inl l ↦
            (up (next_reads other o l)).1
            (above_tie (decimal_units digits power) (decimal_units 1 power) (decimal_units other power) (double_units size power) (some_unit power) (omega (arith, more digits power, units_mono (digits + 1) other power (omega arith)))
            (omega (arith, (up (next_reads other o l)).0, halfway digits power)) same ∙ sym (halfway digits power))
        | inr g ↦
            let l : other < digits = omega (arith, n) in
            let e : digits - 1 + 1 ≡ digits = omega arith in
            let is : decimal_units digits power ≡ decimal_units (digits - 1) power + decimal_units 1 power = subst (λ d. decimal_units d power ≡ decimal_units (digits - 1) power + decimal_units 1 power) e (more (digits - 1) power) in
            (down (before_reads other o l)).1
            (below_tie (decimal_units (digits - 1) power) (decimal_units 1 power) (decimal_units other power) (double_units size power) (some_unit power) (units_mono other (digits - 1) power (omega arith))
            (omega (arith, (down (before_reads other o l)).0, halfway (digits - 1) power)) (rw is at same) ∙ sym (halfway (digits - 1) power))
      ]

  pub shortest_is : IsHighest size power → IsShortest size digits power
  shortest_is highest = record { reads = r; highest = highest; closest = closest; even = even }
