-- A text on one line stays on one line if its doubles are written as decimals.
use Rattle.std.proofs.Common.{◌≡◌, ℕ, zero, suc, ◌+◌, ◌-◌, Bool, true, false, cond, List, [], ◌∷◌, ◌++◌, length, take, drop, slice_range, Option, Some, None, refl, subst}
use Rattle.std.specs.Prelude.{◌&&◌}
use Rattle.std.specs.Str.{bytes_eq}
use Rattle.std.proofs.lemmas.Bool.{and_parts}
use Rattle.std.proofs.lemmas.Slice.Eq.{bytes_eq-Decides}
use Rattle.types_lex.specs.declared.lexeme.Lexeme.{Lexeme}
use Rattle.types_lex.specs.declared.lexeme.LexemeKind.{LexemeKind}
use Rattle.types_lex.specs.declared.lexeme.LexemeKind.TheVariants as kinds
use Rattle.text_print.specs.leaves.LeafTexts.{float_text}
use Rattle.text_decimal.specs.decimal.Shortest.{double_text}
use Rattle.text_decimal.proofs.decimal.DecimalTextLemmas.{double_text_is}
use Rattle.text_decimal.proofs.decimal.DecimalFeedLemmas.{NoFeed, both, double_no_feed}
use Rattle.text_decimal.specs.texts.PlainTexts.{may_after}
use Rattle.text_decimal.specs.texts.Texts.{may_precede, may_follow, stands_alone, write_for, replaced, lexed_from, replaced_or, decimal_text}

taken : (n : ℕ) (text : List ℕ) → NoFeed text → NoFeed (take n text)
taken zero text h = tt
taken (suc n) [] h = tt
taken (suc n) (b ∷ text) h = (h.0, taken n text h.1)

dropped : (n : ℕ) (text : List ℕ) → NoFeed text → NoFeed (drop n text)
dropped zero text h = h
dropped (suc n) [] h = tt
dropped (suc n) (b ∷ text) h = dropped n text h.1

module _ (text : List ℕ) (h : NoFeed text) where
  sliced : (first end : ℕ) → NoFeed (slice_range text first end)
  sliced first end = taken (end - first) (drop first text) (dropped first text h)

  -- If a text is on one line, then the text written for a double contains no line feed.
  double_written : (may : Bool) (bits first end : ℕ) (alone : Bool) → (may && stands_alone text first end (float_text bits)) ≡ alone
      → NoFeed (cond alone (double_text bits) (slice_range text first end))
  double_written may bits first end false test = sliced first end
  double_written may bits first end true test =
      let alone = (and_parts may (stands_alone text first end (float_text bits)) test).1 in
      let same = and_parts (may_precede text first && may_follow text end) (bytes_eq (slice_range text first end) (float_text bits)) alone in
      let is = (bytes_eq-Decides (slice_range text first end) (float_text bits)).0 same.1 in
      double_no_feed bits (double_text bits) (double_text_is bits) (subst NoFeed is (sliced first end))

  lexeme_written : (may : Bool) (kind : LexemeKind) (first end : ℕ) → NoFeed (write_for text may kind first end)
  lexeme_written may (kinds.Double bits) first end = double_written may bits first end (may && stands_alone text first end (float_text bits)) refl
  lexeme_written may (kinds.Keyword _) first end = sliced first end
  lexeme_written may (kinds.Lower _) first end = sliced first end
  lexeme_written may (kinds.Upper _) first end = sliced first end
  lexeme_written may (kinds.Tag _) first end = sliced first end
  lexeme_written may (kinds.Variable _) first end = sliced first end
  lexeme_written may (kinds.Character _) first end = sliced first end
  lexeme_written may (kinds.Integer _) first end = sliced first end
  lexeme_written may (kinds.Text _) first end = sliced first end
  lexeme_written may (kinds.Symbol _) first end = sliced first end

  all_written : (at : ℕ) (may : Bool) (lexemes : List Lexeme) → NoFeed (replaced text at may lexemes)
  all_written at may [] = dropped at text h
  all_written at may (l ∷ ls) =
      let end = l.span.first + l.span.len in
      let write = write_for text may l.kind l.span.first end in
      let rest = replaced text end (may_after l.kind) ls in
      both (slice_range text at l.span.first) (write ++ rest) (sliced at l.span.first)
      (both write rest (lexeme_written may l.kind l.span.first end) (all_written end (may_after l.kind) ls))

  by_lexemes : (lexemes : Option (List Lexeme)) → NoFeed (replaced_or text lexemes)
  by_lexemes None = h
  by_lexemes (Some lexemes) = all_written 0 true lexemes

  pub decimals_no_feed : NoFeed (decimal_text text)
  unfolding decimal_text
  decimals_no_feed = by_lexemes (lexed_from (length text) 0 text)
