-- The decimals of a text, one after another.
use Rattle.std.proofs.Common.{◌≡◌, ◌∙◌, ℕ, ◌+◌, ◌-◌, ◌<◌, ◌≤◌, List, [], ◌∷◌, ◌++◌, length, drop, slice_range, slice_index_or, sym, ap, subst, arith, append_assoc, le-ltb}
use Rattle.std.proofs.lemmas.List.{drop_more}
use Rattle.text_print.specs.leaves.LeafTexts.{float_text}
use Rattle.text_decimal.specs.declared.texts.decimals.Decimal.{Decimal}
use Rattle.text_decimal.specs.texts.PlainTexts.{plain_with, given_from, AreWithin}

abbrev pub nothing : Decimal
nothing = record { first = 0; len = 0; bits = 0 }

within_end : (from : ℕ) (ds : List Decimal) (end : ℕ) → AreWithin from ds end → from ≤ end
within_end from [] end is = is
within_end from (d ∷ ds) end is = omega (arith, is.0, within_end (d.first + d.len) ds end is.2)

module _ (ds : List Decimal) (i : ℕ) (below : i < length ds) where
  left_is : drop i ds ≡ slice_index_or ds i nothing ∷ drop (i + 1) ds
  left_is = drop_more ds i nothing below

  pub first_within : (at end : ℕ) → AreWithin at (drop i ds) end → at ≤ (slice_index_or ds i nothing).first
  first_within at end is = (subst (λ t. AreWithin at t end) left_is is).0

  pub others_within : (at end : ℕ) → AreWithin at (drop i ds) end
      → AreWithin ((slice_index_or ds i nothing).first + (slice_index_or ds i nothing).len) (drop (i + 1) ds) end
  others_within at end is = (subst (λ t. AreWithin at t end) left_is is).2

  pub last_within : (at end : ℕ) → AreWithin at (drop i ds) end → (slice_index_or ds i nothing).first + (slice_index_or ds i nothing).len ≤ end
  last_within at end is = within_end ((slice_index_or ds i nothing).first + (slice_index_or ds i nothing).len) (drop (i + 1) ds) end (others_within at end is)

  pub plain_more : (text : List ℕ) (at : ℕ) (new between behind whole : List ℕ) → new ++ plain_with text at (drop i ds) ≡ whole
      → between ≡ new ++ slice_range text at (slice_index_or ds i nothing).first → behind ≡ between ++ float_text (slice_index_or ds i nothing).bits
      → behind ++ plain_with text ((slice_index_or ds i nothing).first + (slice_index_or ds i nothing).len) (drop (i + 1) ds) ≡ whole
  plain_more text at new between behind whole is first last =
      let d : Decimal = slice_index_or ds i nothing in
      let gap = slice_range text at d.first in
      let bits = float_text d.bits in
      let rest = plain_with text (d.first + d.len) (drop (i + 1) ds) in
      ap (λ t. t ++ rest) (last ∙ ap (λ t. t ++ bits) first) ∙ append_assoc (new ++ gap) bits rest ∙ append_assoc new gap (bits ++ rest)
      ∙ ap (λ t. new ++ plain_with text at t) (sym left_is) ∙ is

  pub given_more : (at plain byte whole : ℕ) → plain + ((slice_index_or ds i nothing).first - at) + 17 ≤ byte → given_from at plain (drop i ds) byte ≡ whole
      → given_from ((slice_index_or ds i nothing).first + (slice_index_or ds i nothing).len) (plain + ((slice_index_or ds i nothing).first - at) + 17) (drop (i + 1) ds) byte ≡ whole
  given_more at plain byte whole far is =
      let d : Decimal = slice_index_or ds i nothing in
      let begins = plain + (d.first - at) in
      let step : given_from at plain (d ∷ drop (i + 1) ds) byte ≡ given_from (d.first + d.len) (begins + 17) (drop (i + 1) ds) byte =
      rw (le-ltb byte begins (omega arith), le-ltb byte (begins + 17) far) in
      sym step ∙ ap (λ t. given_from at plain t byte) (sym left_is) ∙ is
