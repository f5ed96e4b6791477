-- The text of a double contains no line feed.
use Rattle.std.proofs.Common.{◌≡◌, ◌≢◌, ℕ, Bool, true, false, cond, List, [], ◌∷◌, ◌++◌, sym, subst, inl, inr, arith}
use Rattle.std.proofs.lemmas.Str.Parse.{digit_from_value}
use Rattle.std.specs.List.{AllByRecursion}
use Rattle.std.specs.Fmt.{sign_text}
use Rattle.std.specs.Str.Parse.{AllDigits}
use Rattle.fast_float.specs.Text.{Parts, IsWellFormed, exponent_text, text_of}
use Rattle.text_print.specs.leaves.LeafTexts.{float_text}
use Rattle.text_decimal.specs.decimal.Doubles.{is_negative, size_of}
use Rattle.text_decimal.specs.decimal.Layout.{IsDoubleText, size_text}
use Rattle.text_decimal.proofs.decimal.NearestLemmas.{few_powers}
use Rattle.text_decimal.proofs.decimal.LayoutLemmas.{IsNumeralOf, size_text_is, zero_is}

abbrev pub NoFeed : List ℕ → Type 0
NoFeed bytes = AllByRecursion (λ b. b ≢ 10) bytes

pub both : (one other : List ℕ) → NoFeed one → NoFeed other → NoFeed (one ++ other)
both [] other h k = k
both (b ∷ one) other h k = (h.0, both one other h.1 k)

digits : (ds : List ℕ) → AllDigits 10 ds → NoFeed ds
digits [] h = tt
digits (d ∷ ds) h = let r = digit_from_value d h.0 in ((λ e. omega arith), digits ds h.1)

sign : (negative : Bool) → NoFeed (sign_text negative)
sign true = ((λ e. absurd (omega arith)), tt)
sign false = tt

fraction : (point : Bool) (ds : List ℕ) → AllDigits 10 ds → NoFeed (cond point (46 ∷ ds) [])
fraction true ds h = ((λ e. absurd (omega arith)), digits ds h)
fraction false ds h = tt

exponent : (negative : Bool) (ds : List ℕ) → AllDigits 10 ds → NoFeed (exponent_text negative ds)
exponent negative [] h = tt
exponent negative (d ∷ ds) h = ((λ e. absurd (omega arith)), both (sign_text negative) (d ∷ ds) (sign negative) (digits (d ∷ ds) h))

numeral : (p : Parts) → IsWellFormed p → NoFeed (text_of p)
numeral p w =
    both p.whole (cond p.point (46 ∷ p.fraction) [] ++ exponent_text p.exponent_negative p.exponent) (digits p.whole w.whole_digits)
    (both (cond p.point (46 ∷ p.fraction) []) (exponent_text p.exponent_negative p.exponent) (fraction p.point p.fraction w.fraction_digits)
    (exponent p.exponent_negative p.exponent w.exponent_digits))

signed : (negative : Bool) (text size : List ℕ) (ds power : ℕ) → IsNumeralOf size ds power → text ≡ sign_text negative ++ size → NoFeed text
signed negative text size ds power n is =
    subst NoFeed (sym is) (both (sign_text negative) size (sign negative) (subst NoFeed (sym n.text_is) (numeral n.parts n.well_formed)))

pub double_no_feed : (bits : ℕ) (text : List ℕ) → IsDoubleText bits text → NoFeed (float_text bits) → NoFeed text
double_no_feed bits text (inl z) h = signed (is_negative bits) text (48 ∷ 46 ∷ []) 0 342 zero_is z.text_is
double_no_feed bits text (inr (inl d)) h =
    let r = d.shortest.reads in
    signed (is_negative bits) text (size_text d.digits d.power) d.digits d.power (size_text_is d.digits d.power r.few (few_powers (size_of bits) d.digits d.power d.some r)) d.text_is
double_no_feed bits text (inr (inr b)) h = subst NoFeed (sym b.text_is) h
