-- The text of a decimal is the text of a numeral whose number is the decimal.
use Rattle.std.proofs.Common.{◌≡◌, ℕ, zero, suc, ◌+◌, ◌-◌, ◌*◌, ◌^◌, ◌<◌, ◌≤◌, Bool, true, false, cond, List, [], ◌∷◌, ◌++◌, length, take, drop, refl, sym, ap, inl, inr, arith, true≢false, append-nil, append_assoc, length-append, length-take, length-drop, take-append-drop, lt-ltb, le-ltb, le-leb}
use Rattle.std.proofs.lemmas.Bool.{cases_lt, lt-leb}
use Rattle.std.proofs.lemmas.Fmt.{decimal_is_IsNumeral, decimal_nonempty, length-decimal-le}
use Rattle.std.proofs.lemmas.List.{length-replicate, take_all, drop_all}
use Rattle.std.specs.Fmt.{decimal, sign_text}
use Rattle.std.specs.Str.Parse.{digits_value, AllDigits}
use Rattle.fast_float.specs.Text.{Parts, IsWellFormed, digits_of, tens_up, tens_down, exponent_text, text_of}
use Rattle.fast_float.proofs.DigitsLemmas.{digits_value-append}
use Rattle.fast_float.proofs.Extremes.{tens_eq}
use Rattle.fast_float.proofs.Rows.{AllDigits-take, AllDigits-drop, AllDigits-append}
use Rattle.text_decimal.specs.decimal.Layout.{zeros, pointed, behind_point, scientific, placed, size_text}
use Rattle.text_decimal.specs.decimal.DecimalReading.{is_decimal}

-- The number of the numeral `p` is the decimal.
abbrev pub IsWorth : Parts → ℕ → ℕ → Type 0
IsWorth p digits power =
    digits_of p * 10 ^ tens_up p * 10 ^ (342 - power)
    ≡ digits * 10 ^ (power - 342) * 10 ^ tens_down p

-- The text is a numeral whose number is the decimal.
pub record IsNumeralOf (text : List ℕ) (digits power : ℕ) : Type 0 where
  pub parts : Parts
  pub text_is : text ≡ text_of parts
  pub well_formed : IsWellFormed parts
  pub whole : 0 < length parts.whole
  pub decimal : is_decimal parts ≡ true
  pub worth : IsWorth parts digits power

abbrev parts_of : List ℕ → Bool → List ℕ → Bool → List ℕ → Parts
parts_of whole point fraction negative exponent = record {
  whole = whole;
  point = point;
  fraction = fraction;
  exponent_negative = negative;
  exponent = exponent;
  len = length (whole ++ (cond point (46 ∷ fraction) [] ++ exponent_text negative exponent));
}

AllDigits-zeros : (n : ℕ) → AllDigits 10 (zeros n)
AllDigits-zeros zero = tt
AllDigits-zeros (suc n) = (omega arith, AllDigits-zeros n)

value_zeros : (n : ℕ) → digits_value 10 (zeros n) ≡ 0
value_zeros zero = refl
value_zeros (suc n) = value_zeros n

-- ---- with a point, without an exponent

with_point : (whole fraction : List ℕ) (digits power : ℕ) → AllDigits 10 whole → AllDigits 10 fraction → 0 < length whole
    → digits_value 10 (whole ++ fraction) * 10 ^ 0 * 10 ^ (342 - power) ≡ digits * 10 ^ (power - 342) * 10 ^ (length fraction + 0)
    → IsNumeralOf (whole ++ 46 ∷ fraction) digits power
with_point whole fraction digits power w f some worth = record {
  parts = parts_of whole true fraction false [];
  text_is = ap (λ l. whole ++ 46 ∷ l) (sym (append-nil fraction));
  well_formed = record { whole_digits = w; fraction_digits = f; exponent_digits = tt; no_point = λ e. absurd (true≢false e); no_exponent = λ _. refl; len_is = refl };
  whole = some;
  decimal = rw (lt-ltb 0 (length whole) some) refl;
  worth = worth;
}

-- ---- with an exponent

exponent_is : (negative : Bool) (ex : List ℕ) → 0 < length ex → exponent_text negative ex ≡ 101 ∷ (sign_text negative ++ ex)
exponent_is negative [] h = absurd (omega arith)
exponent_is negative (d ∷ ds) h = refl

nonempty : (ex : List ℕ) → 0 < length ex → ex ≡ [] → ⊥
nonempty [] h e = absurd (omega arith)
nonempty (d ∷ ds) h e = omega (arith, ap length e)

with_exponent : (whole fraction ex : List ℕ) (negative : Bool) (digits power : ℕ) → AllDigits 10 whole → AllDigits 10 fraction → AllDigits 10 ex → 0 < length whole → 0 < length ex
    → digits_value 10 (whole ++ fraction) * 10 ^ (cond negative 0 (digits_value 10 ex)) * 10 ^ (342 - power) ≡ digits * 10 ^ (power - 342) * 10 ^ (length fraction + cond negative (digits_value 10 ex) 0)
    → IsNumeralOf (whole ++ (behind_point fraction ++ 101 ∷ (sign_text negative ++ ex))) digits power
with_exponent whole [] ex negative digits power w f e some more worth = record {
  parts = parts_of whole false [] negative ex;
  text_is = ap (λ l. whole ++ l) (sym (exponent_is negative ex more));
  well_formed = record { whole_digits = w; fraction_digits = tt; exponent_digits = e; no_point = λ _. refl; no_exponent = λ z. absurd (nonempty ex more z); len_is = refl };
  whole = some;
  decimal = rw (lt-ltb 0 (length whole) some, lt-ltb 0 (length ex) more) refl;
  worth = worth;
}
with_exponent whole (d ∷ ds) ex negative digits power w f e some more worth = record {
  parts = parts_of whole true (d ∷ ds) negative ex;
  text_is = ap (λ l. whole ++ 46 ∷ d ∷ (ds ++ l)) (sym (exponent_is negative ex more));
  well_formed = record { whole_digits = w; fraction_digits = f; exponent_digits = e; no_point = λ z. absurd (true≢false z); no_exponent = λ z. absurd (nonempty ex more z); len_is = refl };
  whole = some;
  decimal = rw (lt-ltb 0 (length whole) some) refl;
  worth = worth;
}

-- ---- the forms of the layout; `ds` are the bytes of the digits

module _ (ds : List ℕ) (digits power : ℕ) (all : AllDigits 10 ds) (some : 0 < length ds) (value : digits_value 10 ds ≡ digits) where
  by_exponent : (negative : Bool) (e : ℕ) → e < 2 ^ 64
      → digits * 10 ^ (cond negative 0 e) * 10 ^ (342 - power) ≡ digits * 10 ^ (power - 342) * 10 ^ (length ds - 1 + cond negative e 0)
      → IsNumeralOf (scientific ds negative e) digits power
  by_exponent negative e small worth =
      let n = decimal_is_IsNumeral e small in
      with_exponent (take 1 ds) (drop 1 ds) (decimal e) negative digits power (AllDigits-take 1 ds all) (AllDigits-drop 1 ds all) n.0.1 (omega (arith, length-take 1 ds)) (decimal_nonempty e small)
      (rw (take-append-drop 1 ds, value, n.1, length-drop 1 ds) worth)

  small_is : (z : ℕ) → length ds + power + z ≡ 342 → IsNumeralOf (48 ∷ 46 ∷ (zeros z ++ ds)) digits power
  small_is z h =
      with_point (48 ∷ []) (zeros z ++ ds) digits power (omega arith, tt) (AllDigits-append (zeros z) ds (AllDigits-zeros z) all) (omega arith)
      (rw (digits_value-append (zeros z) ds, value_zeros z, value, length-append (zeros z) ds, length-replicate {A = ℕ} z 48)
      (omega (arith, tens_eq digits 0 (342 - power) (power - 342) (z + length ds + 0) (omega arith))))

  -- If the point stands among the digits or after the last digit, then the text is a numeral of the
  -- decimal.
  among_is : (m : ℕ) → 0 < m → m ≤ length ds → length ds + power ≡ m + 342 → IsNumeralOf (pointed ds m) digits power
  among_is m first few h =
      let none : m - length ds ≡ 0 = omega arith in
      let long : length (take m ds) ≡ m = omega (arith, length-take m ds) in
      rw none
      (with_point (take m ds) (drop m ds) digits power (AllDigits-take m ds all) (AllDigits-drop m ds all) (omega arith)
      (rw (take-append-drop m ds, value, length-drop m ds) (omega (arith, tens_eq digits 0 (342 - power) (power - 342) (length ds - m + 0) (omega arith)))))

  -- If the point stands after zeros, then the text is a numeral of the decimal.
  behind_is : (m : ℕ) → length ds < m → length ds + power ≡ m + 342 → IsNumeralOf (pointed ds m) digits power
  behind_is m more h =
      let k = m - length ds in
      let cut : (ds ++ zeros k) ++ 46 ∷ [] ≡ ds ++ (zeros k ++ 46 ∷ []) = append_assoc ds (zeros k) (46 ∷ []) in
      rw (take_all m ds (omega arith), drop_all m ds (omega arith), ← cut)
      (with_point (ds ++ zeros k) [] digits power (AllDigits-append ds (zeros k) all (AllDigits-zeros k)) tt (omega (arith, length-append ds (zeros k)))
      (rw (append-nil (ds ++ zeros k), digits_value-append ds (zeros k), value_zeros k, value, length-replicate {A = ℕ} k 48) (omega (arith, tens_eq digits k (342 - power) (power - 342) 0 (omega arith)))))

  placed_is : length ds ≤ 20 → power < 651 → IsNumeralOf (placed ds (length ds + power)) digits power
  placed_is short low =
      let n = length ds in
      elim (cases_lt (n + power) 338) [
        | inl l ↦
            rw (lt-ltb (n + power) 338 l)
            (by_exponent true (343 - (n + power)) (omega arith) (tens_eq digits 0 (342 - power) (power - 342) (n - 1 + (343 - (n + power))) (omega arith)))
        | inr g ↦ rw (le-ltb (n + power) 338 g) (elim (cases_lt 342 (n + power)) [
          | inr l ↦ rw (le-leb (n + power) 342 l) (small_is (342 - (n + power)) (omega arith))
          | inl h ↦ rw (lt-leb (n + power) 342 h) (elim (cases_lt 358 (n + power)) [
            | inr l ↦ rw (le-leb (n + power) 358 l) (elim (cases_lt n (n + power - 342)) [
              | inl a ↦ behind_is (n + power - 342) a (omega arith)
              | inr b ↦ among_is (n + power - 342) (omega arith) b (omega arith)
            ])
            | inl k ↦
                rw (lt-leb (n + power) 358 k)
                (by_exponent false (n + power - 343) (omega arith) (tens_eq digits (n + power - 343) (342 - power) (power - 342) (n - 1 + 0) (omega arith)))
          ])
        ])
      ]

pub size_text_is : (digits power : ℕ) → digits < 10 ^ 19 → power < 651 → IsNumeralOf (size_text digits power) digits power
size_text_is digits power few low =
    let n = decimal_is_IsNumeral digits (omega arith) in
    placed_is (decimal digits) digits power n.0.1 (decimal_nonempty digits (omega arith)) n.1 (omega (arith, length-decimal-le 19 digits (omega arith) few (omega arith))) low

pub zero_is : IsNumeralOf (48 ∷ 46 ∷ []) 0 342
zero_is = with_point (48 ∷ []) [] 0 342 (omega arith, tt) tt (omega arith) (omega arith)
