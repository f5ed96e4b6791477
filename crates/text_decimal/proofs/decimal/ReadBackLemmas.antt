-- Reading the text of a double gives the double.
use Rattle.std.proofs.Common.{◌≡◌, ℕ, suc, ◌+◌, ◌-◌, ◌*◌, ◌^◌, ◌<◌, ◌≤◌, Bool, true, false, not, T, List, [], ◌∷◌, ◌++◌, length, eqb, get_or, refl, sym, ap, ◌∙◌, subst, arith, ne_eqb, inl, inr, ◌⊎◌}
use Rattle.std.proofs.lemmas.Float.{not_nan_f64_bits}
use Rattle.std.proofs.lemmas.Str.Parse.{digit_from_value}
use Rattle.std.specs.Prelude.{Some}
use Rattle.std.specs.Fmt.{sign_text}
use Rattle.std.specs.Str.Parse.{AllDigits}
use lib.Ieee.{binary64, of_bits, to_bits, is_nan}
use lib.Ieee.Bits.{nan_bits_is, to_bits-of_bits}
use lib.Ieee.Scale.{round_same}
use Rattle.fast_float.specs.Text.{Parts, IsWellFormed, nearest, text_of}
use Rattle.fast_float.proofs.ExactLemmas.{ten_to_pos}
use Rattle.fast_float.proofs.Extremes.{nearest_of_zero}
use Rattle.text_decimal.proofs.decimal.DecimalScanLemmas.{scan_before}
use Rattle.ryu.proofs.Signs as signs
use Rattle.text_decimal.specs.decimal.Doubles.{size_of, is_negative, infinite, IsNearest}
use Rattle.text_decimal.specs.decimal.DecimalReading.{IsRead, Stops, is_decimal, decimal_at, bits_of}
use Rattle.text_print.specs.leaves.LeafTexts.{float_text}
use Rattle.text_decimal.specs.decimal.Layout.{IsDoubleText, size_text}
use Rattle.text_decimal.proofs.decimal.NearestLemmas.{few_powers}
use Rattle.text_decimal.proofs.decimal.LayoutLemmas.{IsWorth, IsNumeralOf, size_text_is, zero_is}

number : (bits : ℕ) → size_of bits ≤ infinite → T (not (is_nan (of_bits binary64 bits)))
number bits h = subst (λ b. T (not b)) (nan_bits_is binary64 bits) (not_nan_f64_bits bits h)

-- The double with the bits `bits` is the double nearest to the number of the parts, with the sign
-- of `bits`.
nearest_is : (bits digits power : ℕ) (p : Parts) → bits < 2 ^ 64 → size_of bits ≤ infinite → IsNearest (size_of bits) digits power → IsWorth p digits power → nearest binary64 (is_negative bits) p ≡ of_bits binary64 bits
nearest_is bits digits power p few h near worth =
    round_same binary64 (is_negative bits) _ _ _ _ (ten_to_pos _) (ten_to_pos _) worth
    ∙ signs.signed binary64 (of_bits binary64 bits) (is_negative bits) (size_of bits) _ _ (signs.parts binary64 (of_bits binary64 bits) bits refl few (number bits h)) near.0

bits_are : (bits digits power : ℕ) (p : Parts) → bits < 2 ^ 64 → size_of bits ≤ infinite → IsNearest (size_of bits) digits power → IsWorth p digits power → bits_of (is_negative bits) p ≡ bits
bits_are bits digits power p few h near worth =
    ap (to_bits binary64) (nearest_is bits digits power p few h near worth) ∙ to_bits-of_bits binary64 bits few (number bits h)

-- ---- the text itself

no_minus : (ds x after : List ℕ) → AllDigits 10 ds → 0 < length ds → eqb (get_or ((ds ++ x) ++ after) 0 0) 45 ≡ false
no_minus [] x after h l = absurd (omega arith)
no_minus (d ∷ ds) x after h l = let r = digit_from_value d h.0 in ne_eqb d 45 (λ e. omega arith)

read_text : (negative : Bool) (p : Parts) (after : List ℕ) → Stops after → IsWellFormed p → 0 < length p.whole → is_decimal p ≡ true
    → decimal_at ((sign_text negative ++ text_of p) ++ after) ≡ Some (bits_of negative p, length (sign_text negative ++ text_of p))
read_text true p after stop w some d = rw (scan_before p after w stop, d, w.len_is) (let z : 1 + length (text_of p) ≡ suc (length (text_of p)) = omega arith in λ i. Some (bits_of true p, z i))
read_text false p after stop w some d = rw (no_minus p.whole _ after w.whole_digits some, scan_before p after w stop, d, w.len_is) (let z : 0 + length (text_of p) ≡ length (text_of p) = omega arith in λ i. Some (bits_of false p, z i))

pub read_back : (bits digits power : ℕ) (text size : List ℕ) → bits < 2 ^ 64 → size_of bits ≤ infinite → IsNearest (size_of bits) digits power → IsNumeralOf size digits power
    → text ≡ sign_text (is_negative bits) ++ size → IsRead text bits
read_back bits digits power text size few h near n is =
    let whole = is ∙ ap (λ t. sign_text (is_negative bits) ++ t) n.text_is in
    subst (λ t. IsRead t bits) (sym whole)
    (λ after stop. read_text (is_negative bits) n.parts after stop n.well_formed n.whole n.decimal
    ∙ (λ i. Some (bits_are bits digits power n.parts few h near n.worth i, length (sign_text (is_negative bits) ++ text_of n.parts))))

zero_near : (bits : ℕ) → size_of bits ≡ 0 → IsNearest (size_of bits) 0 342
zero_near bits e = subst (λ s. IsNearest s 0 342) (sym e) (nearest_of_zero binary64 (0 * 10 ^ (342 - 342)) (10 ^ (342 - 342)) (ten_to_pos (342 - 342)) (omega arith))

pub double_is_read_back : (bits : ℕ) → bits < 2 ^ 64 → (text : List ℕ) → IsDoubleText bits text → (text ≡ float_text bits) ⊎ IsRead text bits
double_is_read_back bits few text (inl z) = inr (read_back bits 0 342 text (48 ∷ 46 ∷ []) few (omega (arith, z.zero_is)) (zero_near bits z.zero_is) zero_is z.text_is)
double_is_read_back bits few text (inr (inl d)) =
    let r = d.shortest.reads in
    inr (read_back bits d.digits d.power text (size_text d.digits d.power) few (omega (arith, d.some.1)) r.nearest (size_text_is d.digits d.power r.few (few_powers (size_of bits) d.digits d.power d.some r)) d.text_is)
double_is_read_back bits few text (inr (inr b)) = inl b.text_is
