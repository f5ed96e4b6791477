-- A double's size determines its number, and greater sizes have greater numbers.
use Rattle.std.proofs.Common.{◌≡◌, ℕ, zero, suc, ◌+◌, ◌-◌, ◌*◌, ◌/◌, ◌%◌, ◌^◌, ◌<◌, ◌≤◌, false, T, refl, sym, ◌∙◌, subst, inl, inr, arith, lt-ltb, le-ltb}
use Rattle.std.proofs.lemmas.Bool.{cases_lt}
use native.Mathlib.Nat.{mul-lt-mul_of_pos_right, mul-le-mul_right, mul-le-mul_left, pow-suc}
use lib.Pow.{pow_mono, pow_pos}
use lib.Ieee.{Float, nan, inf, fin, binary64, of_bits, le}
use lib.Ieee.Exact.{HasValue}
use Rattle.fast_float.proofs.Patterns.{field_units, of_bits_value}
use Rattle.text_decimal.specs.decimal.Doubles.{units_of}

pub units_low : (n : ℕ) → n < 2 ^ 52 → units_of n ≡ n
units_low n h = rw (lt-ltb n (2 ^ 52) h) refl

pub units_high : (n : ℕ) → 2 ^ 52 ≤ n → units_of n ≡ (2 ^ 52 + n % 2 ^ 52) * 2 ^ (n / 2 ^ 52 - 1)
units_high n h = rw (le-ltb n (2 ^ 52) h) refl

-- A scaled significand of at least 2 ^ 52 is no less than 2 ^ 52.
scaled_from : (t j : ℕ) → 2 ^ 52 ≤ (2 ^ 52 + t) * 2 ^ j
scaled_from t j = let p : 1 ≤ 2 ^ j = pow_pos j in omega (arith, mul-le-mul_left (2 ^ 52 + t) p)

scaled_lt : (s t i j : ℕ) → s < 2 ^ 52 → i < j → (2 ^ 52 + s) * 2 ^ i < (2 ^ 52 + t) * 2 ^ j
scaled_lt s t i j S l =
    let a : (2 ^ 52 + s) * 2 ^ i < 2 ^ 53 * 2 ^ i = let h : 2 ^ 52 + s < 2 ^ 53 = omega arith in mul-lt-mul_of_pos_right h (pow_pos i) in
    let b : 2 ^ suc i ≤ 2 ^ j = pow_mono l in
    let h : 2 ^ 52 ≤ 2 ^ 52 + t = omega arith in
    omega (arith, a, pow-suc 2 i, mul-le-mul_left (2 ^ 52 + t) b, mul-le-mul_right (2 ^ suc i) h)

same_field : (s t i : ℕ) → s < t → (2 ^ 52 + s) * 2 ^ i < (2 ^ 52 + t) * 2 ^ i
same_field s t i h = let l : 2 ^ 52 + s < 2 ^ 52 + t = omega arith in mul-lt-mul_of_pos_right l (pow_pos i)

pub units_lt : (a b : ℕ) → a < b → units_of a < units_of b
units_lt a b h =
    elim (cases_lt b (2 ^ 52)) [
      | inl B ↦ omega (arith, units_low a (omega arith), units_low b B)
      | inr B ↦ elim (cases_lt a (2 ^ 52)) [
        | inl A ↦ omega (arith, units_low a A, units_high b B, scaled_from (b % 2 ^ 52) (b / 2 ^ 52 - 1))
        | inr A ↦ elim (cases_lt (a / 2 ^ 52) (b / 2 ^ 52)) [
          | inl l ↦ rw (units_high a A, units_high b B) (scaled_lt (a % 2 ^ 52) (b % 2 ^ 52) (a / 2 ^ 52 - 1) (b / 2 ^ 52 - 1) (omega arith) (omega arith))
          | inr g ↦
              let e : b / 2 ^ 52 ≡ a / 2 ^ 52 = omega arith in
              rw (units_high a A, units_high b B, e) (same_field (a % 2 ^ 52) (b % 2 ^ 52) (a / 2 ^ 52 - 1) (omega arith))
        ]
      ]
    ]

field_is : (x t : ℕ) → t < 2 ^ 52 → field_units binary64 x t ≡ units_of (x * 2 ^ 52 + t)
field_is zero t h = omega (arith, units_low (0 * 2 ^ 52 + t) (omega arith))
field_is (suc j) t h =
    let n = suc j * 2 ^ 52 + t in
    let p : n % 2 ^ 52 ≡ t = omega arith in
    let q : n / 2 ^ 52 - 1 ≡ j = omega arith in
    sym (units_high n (omega arith) ∙ (λ i. (2 ^ 52 + p i) * 2 ^ q i))

-- The number of a finite double is its units divided by 2 ^ 1074.
pub value_of_size : (n : ℕ) → n < 2047 * 2 ^ 52 → HasValue (of_bits binary64 n) false (units_of n) (2 ^ 1074)
value_of_size n h =
    let e : n / 2 ^ 52 * 2 ^ 52 + n % 2 ^ 52 ≡ n = omega arith in
    let v = of_bits_value binary64 (n / 2 ^ 52) (n % 2 ^ 52) (omega arith) (omega arith) in
    subst (λ k. HasValue (of_bits binary64 k) false (units_of k) (2 ^ 1074)) e
    (subst (λ a. HasValue (of_bits binary64 (n / 2 ^ 52 * 2 ^ 52 + n % 2 ^ 52)) false a (2 ^ 1074)) (field_is (n / 2 ^ 52) (n % 2 ^ 52) (omega arith)) v)

-- No number reaches infinity.
pub no_infinity : (x : Float) (a c : ℕ) → HasValue x false a c → T (le (inf false) x) → ⊥
unfolding le
no_infinity nan a c v h = h
no_infinity (inf s) a c v h = v
no_infinity (fin s m e) a c v h = h
