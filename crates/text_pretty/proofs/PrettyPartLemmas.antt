-- Texts built from words and brackets are regular.
use Rattle.std.proofs.Common.{◌≡◌, ◌⊎◌, ℕ, true, false, ◌&&◌, ◌==◌, List, [], ◌∷◌, ◌++◌, refl, ap, sym, subst, ◌∙◌, ⊎_elim}
use Rattle.std.specs.Prelude.{codes}
use Rattle.std.proofs.lemmas.Bool.{and_from, not_from_false}
use Rattle.std.proofs.lemmas.List.{append-nil, append_assoc}
use Rattle.text_pretty.specs.declared.break_point.BreakPoint.{BreakPoint}
use Rattle.text_pretty.specs.declared.break_point.BreakPoint.TheVariants as break_points
use Rattle.text_pretty.specs.declared.break_point.ByteRole.{ByteRole}
use Rattle.text_pretty.specs.BreakPoints.{mark_of, next_break_point}
use Rattle.text_pretty.specs.Narrow.{goes_on, has_no_blank, follows, is_regular}
use Rattle.text_pretty.specs.TextParts.{MayFollow, MayBegin, Leads, PartsAreRegular}
use Rattle.text_pretty.proofs.NarrowLemmas.{parts_lead}

-- Suppose a word leads from one context to another. Then the word followed by a text is regular if
-- and only if the text is regular.
led : (word : List ℕ) (break_point to : BreakPoint) (rest : List ℕ) → Leads break_point word to → is_regular break_point (word ++ rest) ≡ is_regular to rest
led [] break_point to rest leads = ap (λ s. is_regular s rest) leads
led (b ∷ bytes) break_point to rest leads =
    ap (λ (m : ByteRole). follows m b (next_break_point break_point b) (bytes ++ rest) && is_regular (next_break_point break_point b) (bytes ++ rest)) leads.0
    ∙ led bytes (next_break_point break_point b) to rest leads.1

-- If a text may follow a part, then the text is regular after a name.
name_goes : (rest : List ℕ) → MayFollow rest → is_regular break_points.Name rest ≡ true
name_goes [] may = refl
name_goes (b ∷ bytes) may =
    ap (λ s. follows (mark_of break_points.Outside b) b s bytes && is_regular s bytes) (parts_lead break_points.Name b may.0) ∙ may.1

to_goes : (to : BreakPoint) (rest : List ℕ) → (to ≡ break_points.Outside) ⊎ (to ≡ break_points.Name) → MayFollow rest → is_regular to rest ≡ true
to_goes to rest is may =
    ⊎_elim (λ e. ap (λ s. is_regular s rest) e ∙ may.1) (λ e. ap (λ s. is_regular s rest) e ∙ name_goes rest may) is

named : (b : ℕ) (bytes opening text : List ℕ) → (b == 32) ≡ false → Leads break_points.Outside (b ∷ bytes) break_points.Name → is_regular break_points.Name (opening ++ text) ≡ true → MayBegin (b ∷ bytes ++ opening ++ text)
named b bytes opening text no_blank leads regular =
    subst MayBegin (sym (append_assoc (b ∷ bytes) opening text))
    (not_from_false (b == 32) no_blank, led (b ∷ bytes) break_points.Outside break_points.Name (opening ++ text) leads ∙ regular)

pub parts_are_regular_lem : PartsAreRegular
parts_are_regular_lem = record {
  whole = λ text part. sym (ap (is_regular break_points.Outside) (append-nil text)) ∙ (part [] (refl, refl)).1;
  word = λ b bytes to no_blank leads end rest may.
      (not_from_false (b == 32) no_blank, led (b ∷ bytes) break_points.Outside to rest leads ∙ to_goes to rest end may);
  behind_word = λ b bytes text no_blank leads may.
      (not_from_false (b == 32) no_blank, led (b ∷ bytes) break_points.Outside break_points.Outside text leads ∙ may.1);
  paren = λ rest may. (refl, and_from (goes_on break_points.Outside rest) (is_regular break_points.Outside rest) may.0 may.1);
  brace = λ rest may. (refl, and_from (goes_on break_points.Outside rest) (is_regular break_points.Outside rest) may.0 may.1);
  bar = λ rest may. (refl, and_from (goes_on break_points.Outside rest) (is_regular break_points.Outside rest) may.0 may.1);
  comma = λ text may. (refl, may.1);
  semicolon = λ text may. (refl, may.1);
  opens_paren = λ text may. (refl, and_from (has_no_blank text) (is_regular break_points.Outside text) may.0 may.1);
  opens_brace = λ text may. (refl, and_from (has_no_blank text) (is_regular break_points.Outside text) may.0 may.1);
  opens_array = λ text may. (refl, and_from (has_no_blank text) (is_regular break_points.Outside text) may.0 may.1);
  opens_list = λ text may. (refl, may.1);
  opens_named = λ b bytes text no_blank leads may. (
    named b bytes (codes "(") text no_blank leads (and_from (has_no_blank text) (is_regular break_points.Outside text) may.0 may.1),
    named b bytes (codes "{") text no_blank leads (and_from (has_no_blank text) (is_regular break_points.Outside text) may.0 may.1),
  );
}
