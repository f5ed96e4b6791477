-- Lemmas about the marks of the first lexemes, one lexeme at a time.
use Rattle.std.proofs.Common.{ℕ, suc, ◌+◌, ◌<◌, ◌≤◌, ◌≡◌, ◌∙◌, Bool, false, List, [], ◌∷◌, ◌++◌, length, get_or, take}
use Rattle.std.proofs.Common.{sym, ap, arith, append_assoc}
use Rattle.std.specs.Prelude.{◌&&◌}
use Rattle.std.proofs.lemmas.List.{length-take-le, append-nil}
use Rattle.types_lex.specs.declared.lexeme.Lexeme.{Lexeme}
use Rattle.types_parse.specs.grammar.LexemeKinds.{kinds_of}
use Rattle.types_parse.proofs.grammar.LexemeLemmas.{kinds_length, kinds_next}
use Rattle.types_resolve.specs.occurrences.Counted.{is_marked, opens_item, begins_type, after, one_if, marks}
use Rattle.types_resolve.proofs.occurrences.OccurrenceStandLemmas.{after_append, marks_append}

-- The invariant of the loop over the lexemes: `so_far` contains the marks of the lexemes before
-- `i`.
pub record AreMarksTo (lexemes : List Lexeme) (i : ℕ) (fresh : Bool) (so_far : List ℕ) : Type 0 where
  pub marked : so_far ≡ marks 0 false (take i (kinds_of lexemes))
  pub opened : fresh ≡ after false (take i (kinds_of lexemes))

-- The invariant of the loop over the lexemes holds after one more iteration.
pub marks_next :
    (lexemes : List Lexeme) (i : ℕ) (l : Lexeme) (fresh opened : Bool) (so_far first next : List ℕ) → i < length lexemes
    → l ≡ get_or lexemes i l → AreMarksTo lexemes i fresh so_far
    → first ≡ so_far ++ one_if (begins_type l.kind && fresh) i
    → next ≡ first ++ one_if (is_marked l.kind) i
    → opened ≡ opens_item l.kind
    → AreMarksTo lexemes (i + 1) opened next
marks_next lexemes i l fresh opened so_far first next below read are first_is next_is opened_is =
    let kinds = kinds_of lexemes in
    let before = take i kinds in
    let one : suc i ≡ i + 1 = omega arith in
    let within : i ≤ length kinds = omega (arith, kinds_length lexemes) in
    let at : 0 + length before ≡ i = omega (arith, length-take-le i kinds within) in
    let more : before ++ l.kind ∷ [] ≡ take (i + 1) kinds =
    sym (kinds_next lexemes i l below read) ∙ ap (λ n. take n kinds) one in
    let some = one_if (begins_type l.kind && fresh) i in
    let others = one_if (is_marked l.kind) i in
    record {
      marked = next_is ∙ ap (λ ms. ms ++ others) (first_is ∙ ap (λ ms. ms ++ some) are.marked)
          ∙ append_assoc (marks 0 false before) some others
          ∙ ap (λ l. marks 0 false before ++ (some ++ l)) (sym (append-nil others))
          ∙ ap (λ f. marks 0 false before ++ (one_if (begins_type l.kind && f) i ++ (others ++ []))) are.opened
          ∙ ap (λ n. marks 0 false before ++ marks n (after false before) (l.kind ∷ [])) (sym at)
          ∙ sym (marks_append 0 false before (l.kind ∷ []))
          ∙ ap (λ ks. marks 0 false ks) more;
      opened = opened_is ∙ sym (after_append false before (l.kind ∷ [])) ∙ ap (λ ks. after false ks) more;
    }
