-- A text with its doubles as decimals, lexeme by lexeme.
use Rattle.std.proofs.Common.{ℕ, ◌≡◌, ◌∙◌, ◌+◌, ◌<◌, ◌≤◌, ◌++◌, Bool, true, List, [], ◌∷◌, length, drop, get_or, append_assoc, subst, sym, ap, arith}
use Rattle.std.proofs.lemmas.List.{drop_more}
use Rattle.std.specs.Prelude.{slice_range}
use Rattle.types_lex.specs.LexText.{SpansWithin}
use Rattle.types_lex.specs.declared.lexeme.Lexeme.{Lexeme}
use Rattle.text_decimal.specs.texts.PlainTexts.{may_after}
use Rattle.text_decimal.specs.texts.Texts.{write_for, replaced}

-- The text written up to now, followed by the text for the remaining lexemes, is the text for all
-- lexemes.
abbrev pub IsSoFar : (text : List ℕ) (all : List Lexeme) (at : ℕ) (may : Bool) (left : List Lexeme) (old new : List ℕ) → Type 0
IsSoFar text all at may left old new =
    (write : List ℕ) × (new ≡ old ++ write) × (replaced text 0 true all ≡ write ++ replaced text at may left)

pub so_far_more :
    (text : List ℕ) (all : List Lexeme) (at : ℕ) (may next : Bool) (l : Lexeme) (left : List Lexeme)
    (old new between behind : List ℕ)
    → IsSoFar text all at may (l ∷ left) old new
    → between ≡ new ++ slice_range text at l.span.first
    → behind ≡ between ++ write_for text may l.kind l.span.first (l.span.first + l.span.len)
    → next ≡ may_after l.kind
    → IsSoFar text all (l.span.first + l.span.len) next left old behind
so_far_more text all at may next l left old new between behind (done, is, all_is) first last after =
    let end = l.span.first + l.span.len in
    let gap = slice_range text at l.span.first in
    let write = write_for text may l.kind l.span.first end in
    let rest = replaced text end (may_after l.kind) left in (
      done ++ (gap ++ write),
      last ∙ (λ i. first i ++ write) ∙ (λ i. (is i ++ gap) ++ write)
          ∙ append_assoc (old ++ done) gap write ∙ append_assoc old done (gap ++ write),
      all_is ∙ sym (append_assoc done (gap ++ write) rest ∙ (λ i. done ++ append_assoc gap write rest i))
          ∙ (λ i. (done ++ (gap ++ write)) ++ replaced text end (sym after i) left),
    )

-- ---- the offsets of the lexemes

left_is :
    (all : List Lexeme) (i : ℕ) (l : Lexeme) → i < length all → l ≡ get_or all i l
    → drop i all ≡ l ∷ drop (i + 1) all
left_is all i l below read =
    drop_more all i l below ∙ ap (λ (x : Lexeme). x ∷ drop (i + 1) all) (sym read)

spans_end : (from : ℕ) (ls : List Lexeme) (end : ℕ) → SpansWithin from ls end → from ≤ end
spans_end from [] end is = is
spans_end from (l ∷ ls) end is =
    omega (arith, is.0, spans_end (l.span.first + l.span.len) ls end is.2)

module _ (all : List Lexeme) (at i : ℕ) (l : Lexeme) (n : ℕ) (below : i < length all) (read : l ≡ get_or all i l) where
  spans_here : SpansWithin at (drop i all) n → SpansWithin at (l ∷ drop (i + 1) all) n
  spans_here is = subst (λ ls. SpansWithin at ls n) (left_is all i l below read) is

  pub spans_behind :
      SpansWithin at (drop i all) n
      → SpansWithin (l.span.first + l.span.len) (drop (i + 1) all) n
  spans_behind is = (spans_here is).2

  pub last_within : SpansWithin at (drop i all) n → l.span.first + l.span.len ≤ n
  last_within is = spans_end (l.span.first + l.span.len) (drop (i + 1) all) n (spans_behind is)

  pub first_within :
      SpansWithin at (drop i all) n → (at ≤ l.span.first) × (l.span.first ≤ n)
  first_within is = ((spans_here is).0, omega (arith, last_within is))

  pub so_far_here :
      (text old new : List ℕ) (may : Bool) → IsSoFar text all at may (drop i all) old new
      → IsSoFar text all at may (l ∷ drop (i + 1) all) old new
  so_far_here text old new may is =
      subst (λ ls. IsSoFar text all at may ls old new) (left_is all i l below read) is
