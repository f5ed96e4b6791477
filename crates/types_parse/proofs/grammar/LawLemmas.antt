-- If a table reads the texts of a grammar, then the laws of the grammar hold.
use Rattle.std.proofs.Common.{
  ℕ,
  zero,
  suc,
  ◌+◌,
  ◌≡◌,
  ◌<◌,
  ◌⊎◌,
  inl,
  inr,
  ⊎_elim,
  ◌∙◌,
  List,
  [],
  ◌∷◌,
  ◌++◌,
  length,
  take,
  drop,
  Option,
  Some,
  None,
  refl,
  sym,
  ap,
  subst,
  arith,
}
use Rattle.std.proofs.lemmas.List.{take-append-drop}
use Rattle.std.proofs.lemmas.Bool.{cases_lt}
use Rattle.types_lex.specs.declared.lexeme.LexemeKind.{LexemeKind}
use Rattle.types_parse.specs.grammar.Grammar.{Kinds}
use Rattle.types_parse.specs.grammar.Refusals.{
  IsViable,
  IsSyntax,
  IsDeep,
  IsTooDeep,
  IsRefusedAsSyntax,
  TextReading,
  text_read,
  syntax_at,
  too_deep_at,
  IsReading,
}
use Rattle.types_parse.specs.grammar.Laws.{
  HasOneTree,
  IsTextOrSyntax,
  HasNoSyntax,
  HasEndsForEach,
  SyntaxComesFirst,
  HasOneReading,
}
use Rattle.types_parse.specs.grammar.TypeMachine.{run}
use Rattle.types_parse.proofs.grammar.MachineLemmas.{leads_length}
use Rattle.types_parse.proofs.grammar.TypeGrammarTableLemmas.{
  Reads,
  next_lexeme,
  take_whole,
  run_more,
  viable_prefix,
  text_is_read,
  one_text,
  is_syntax_at,
  syntax_end,
  syntax_order,
  deep_at,
  shallow_at,
}

module _ {Text State : Type 0} {encoded : Text → Kinds} {ends : Text → List ℕ} {step : State →
    LexemeKind → Option State} {start : State} {prefix : State → Kinds} {brackets ended : State → ℕ}
    {accepted : State → Option Text} (r : Reads encoded ends step start prefix brackets ended
    accepted) where
  pub one_tree : HasOneTree encoded
  one_tree = one_text r

  pub ends_for_each : HasEndsForEach encoded ends
  ends_for_each t = leads_length (r.leads t)

  one_syntax : (lexemes : Kinds) (j k : ℕ) → IsSyntax encoded lexemes j → IsSyntax encoded lexemes
      k → j ≡ k
  one_syntax lexemes j k a b = ⊎_elim (λ l. absurd (syntax_order r lexemes j k a b l))
      (λ l. ⊎_elim (λ m. absurd (syntax_order r lexemes k j b a m)) (λ m. omega arith)
      (cases_lt k j)) (cases_lt j k)

  whole_viable : (t : Text) (lexemes : Kinds) (k : ℕ) → encoded t ≡ lexemes →
      IsViable encoded (take k lexemes)
  whole_viable t lexemes k e = (t, drop k lexemes, e ∙ sym (take-append-drop k lexemes))

  pub no_syntax : HasNoSyntax encoded
  no_syntax t k s =
      ⊎_elim (λ l. s.no_more l (whole_viable t (encoded t) (suc k) refl))
      (λ l. s.no_text (omega (arith, s.within)) t refl)
      (cases_lt k (length (encoded t)))

  deep_viable : (lexemes : Kinds) (j : ℕ) → IsDeep encoded ends lexemes j →
      IsViable encoded (take (suc j) lexemes)
  deep_viable lexemes j d = (d.text, d.rest, d.begins)

  pub syntax_first : SyntaxComesFirst encoded ends
  syntax_first lexemes j k d s =
      ⊎_elim (λ l. l) (λ l. absurd (s.no_more (omega (arith, d.within))
      (viable_prefix r lexemes (suc k) (suc j) (omega arith) (deep_viable lexemes j d))))
      (cases_lt j k)

  -- ---- reading from a position

  abbrev Found : Kinds → Type 0
  Found lexemes = ((t : Text) × (encoded t ≡ lexemes)) ⊎ ((k : ℕ) × IsSyntax encoded lexemes k)

  at_the_end : (lexemes : Kinds) (s : State) → run step start lexemes ≡ Some s → (o : Option Text) →
      accepted s ≡ o → Found lexemes
  at_the_end lexemes s g (Some t) a = inl (t, text_is_read r t s lexemes g a)
  at_the_end lexemes s g None a = inr (length lexemes, syntax_end r lexemes s g a)

  read_on : (lexemes : Kinds) (n k : ℕ) (s : State) → n + k ≡ length lexemes →
      run step start (take k lexemes) ≡ Some s → Found lexemes
  read_on lexemes zero k s e g =
      let here : k ≡ length lexemes = omega arith in
      let whole : take k lexemes ≡ lexemes = ap (λ n. take n lexemes) here ∙ take_whole lexemes in
      at_the_end lexemes s (sym (ap (run step start) whole) ∙ g) (accepted s) refl
  read_on lexemes (suc n) k s e g =
      let i = next_lexeme lexemes k (omega arith) in
      goes_on i.0 i.1 (step s i.0) refl (λ next. read_on lexemes n (suc k) next (omega arith))
    where
      goes_on : (kind : LexemeKind) → take (suc k) lexemes ≡ take k lexemes ++ kind ∷ [] →
          (o : Option State) → step s kind ≡ o →
          ((next : State) → run step start (take (suc k) lexemes) ≡ Some next → Found lexemes) →
          Found lexemes
      goes_on kind f None h on = inr (k, is_syntax_at r lexemes k kind s (omega arith) f g h)
      goes_on kind f (Some next) h on =
          on next (ap (run step start) f ∙ run_more step (take k lexemes) start s (Some next) kind g
          h)

  pub text_or_syntax : IsTextOrSyntax encoded
  text_or_syntax lexemes = ⊎_elim (λ t. inl t)
      (λ (k, s). inr (k, s, λ j i. one_syntax lexemes j k i s)) (read_on lexemes (length lexemes) 0
      start (omega arith) refl)

  -- ---- reading with depths

  abbrev Readable : Kinds → Type 0
  Readable lexemes = (reading : TextReading Text) × IsReading encoded ends lexemes reading

  abbrev ShallowBelow : Kinds → ℕ → Type 0
  ShallowBelow lexemes k = (j : ℕ) → j < k → IsDeep encoded ends lexemes j → ⊥

  ends_read : (lexemes : Kinds) (s : State) → run step start lexemes ≡ Some s →
      ShallowBelow lexemes (length lexemes) → (o : Option Text) → accepted s ≡ o → Readable lexemes
  ends_read lexemes s g b (Some t) a = (
    text_read t,
    record {
      encodes = text_is_read r t s lexemes g a;
      shallow =
          λ j d. b j d.within d;
    },
  )
  ends_read lexemes s g b None a = (
    syntax_at (length lexemes),
    record { syntax = syntax_end r lexemes s g a; shallow = b },
  )

  one_below : (lexemes : Kinds) (k : ℕ) → ShallowBelow lexemes k →
      (IsDeep encoded ends lexemes k → ⊥) → ShallowBelow lexemes (suc k)
  one_below lexemes k b h j l d = ⊎_elim (λ m. b j m d) (λ m. let e : j ≡ k = omega arith in
      h (subst (IsDeep encoded ends lexemes) e d)) (cases_lt j k)

  judged : (lexemes : Kinds) (n k : ℕ) (s : State) → n + k ≡ length lexemes →
      run step start (take k lexemes) ≡ Some s → ShallowBelow lexemes k → Readable lexemes
  judged lexemes zero k s e g b =
      let here : k ≡ length lexemes = omega arith in
      let whole : take k lexemes ≡ lexemes = ap (λ n. take n lexemes) here ∙ take_whole lexemes in
      ends_read lexemes s (sym (ap (run step start) whole) ∙ g)
      (subst (ShallowBelow lexemes) here b) (accepted s) refl
  judged lexemes (suc n) k s e g b =
      let i = next_lexeme lexemes k (omega arith) in
      goes_on i.0 i.1 (step s i.0) refl (λ next. judged lexemes n (suc k) next (omega arith))
    where
      reports : (next : State) → run step start (take (suc k) lexemes) ≡ Some next →
          ((IsDeep encoded ends lexemes k → ⊥) → Readable lexemes) → Readable lexemes
      reports next h on =
          let deep = λ (d : (200 < ended next) ⊎ (200 < brackets next)). let r : Readable lexemes = (
            too_deep_at k,
            record {
              deep = deep_at r lexemes k next (omega arith) h d;
              first =
                  b;
            },
          ) in r in
          ⊎_elim (λ l. deep (inl l)) (λ l. ⊎_elim (λ m. deep (inr m))
          (λ m. on (shallow_at r lexemes k next h l m)) (cases_lt 200 (brackets next)))
          (cases_lt 200 (ended next))

      goes_on : (kind : LexemeKind) → take (suc k) lexemes ≡ take k lexemes ++ kind ∷ [] →
          (o : Option State) → step s kind ≡ o →
          ((next : State) → run step start (take (suc k) lexemes) ≡ Some next →
          ShallowBelow lexemes (suc k) → Readable lexemes) → Readable lexemes
      goes_on kind f None h on = (
        syntax_at k,
        record { syntax = is_syntax_at r lexemes k kind s (omega arith) f g h; shallow = b },
      )
      goes_on kind f (Some next) h on =
          let ran : run step start (take (suc k) lexemes) ≡ Some next = ap (run step start) f
          ∙ run_more step (take k lexemes) start s (Some next) kind g h in
          reports next ran (λ d. on next ran (one_below lexemes k b d))

  first_alone : (lexemes : Kinds) (j k : ℕ) → IsTooDeep encoded ends lexemes j →
      IsTooDeep encoded ends lexemes k → j ≡ k
  first_alone lexemes j k a b = ⊎_elim (λ l. absurd (b.first j l a.deep))
      (λ l. ⊎_elim (λ m. absurd (a.first k m b.deep)) (λ m. omega arith) (cases_lt k j))
      (cases_lt j k)

  not_both : (lexemes : Kinds) (j k : ℕ) → IsRefusedAsSyntax encoded ends lexemes j →
      IsTooDeep encoded ends lexemes k → ⊥
  not_both lexemes j k a b = a.shallow k (syntax_first lexemes k j b.deep a.syntax) b.deep

  text_excludes : (lexemes : Kinds) (t : Text) (k : ℕ) → encoded t ≡ lexemes →
      IsSyntax encoded lexemes k → ⊥
  text_excludes lexemes t k e s = no_syntax t k (subst (λ all. IsSyntax encoded all k) (sym e) s)

  one_answer : (lexemes : Kinds) (a b : TextReading Text) → IsReading encoded ends lexemes a →
      IsReading encoded ends lexemes b → b ≡ a
  one_answer lexemes (text_read t) (text_read u) p q =
      ap text_read (one_text r u t (q.encodes ∙ sym p.encodes))
  one_answer lexemes (text_read t) (syntax_at k) p q =
      absurd (text_excludes lexemes t k p.encodes q.syntax)
  one_answer lexemes (text_read t) (too_deep_at k) p q = absurd (p.shallow k q.deep)
  one_answer lexemes (syntax_at j) (text_read u) p q =
      absurd (text_excludes lexemes u j q.encodes p.syntax)
  one_answer lexemes (syntax_at j) (syntax_at k) p q =
      ap syntax_at (one_syntax lexemes k j q.syntax p.syntax)
  one_answer lexemes (syntax_at j) (too_deep_at k) p q = absurd (not_both lexemes j k p q)
  one_answer lexemes (too_deep_at j) (text_read u) p q = absurd (q.shallow j p.deep)
  one_answer lexemes (too_deep_at j) (syntax_at k) p q = absurd (not_both lexemes k j q p)
  one_answer lexemes (too_deep_at j) (too_deep_at k) p q =
      ap too_deep_at (first_alone lexemes k j q p)

  pub one_reading : HasOneReading encoded ends
  one_reading lexemes =
      let found : Readable lexemes = judged lexemes (length lexemes) 0 start (omega arith) refl
      (λ j l d. absurd (omega arith)) in
      (found.0, found.1, λ other q. one_answer lexemes found.0 other found.1 q)
