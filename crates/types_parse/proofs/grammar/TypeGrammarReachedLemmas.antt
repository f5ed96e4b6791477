-- A loop that reads lexemes as a table does: the state reached at a position, and the results that
-- the loop may return at the position. `Shown` relates the variables of the code to the states of
-- the table.
use Rattle.std.proofs.Common.{ℕ, suc, ◌≡◌, ◌≤◌, ◌<◌, ◌⊎◌, inl, inr, ⊎_elim, ◌∙◌, min, List, [], ◌∷◌, ◌++◌, length, take, Option, Some, None, refl, sym, ap, subst, arith}
use Rattle.std.specs.Prelude.{IfSome}
use Rattle.std.proofs.lemmas.Bool.{cases_lt}
use Rattle.types_lex.specs.declared.lexeme.LexemeKind.{LexemeKind}
use Rattle.types_parse.specs.grammar.Grammar.{Kinds}
use Rattle.types_parse.specs.grammar.Refusals.{opened, IsDeep, IsTooDeep, IsRefusedAsSyntax, IsText}
use Rattle.types_parse.specs.grammar.TypeMachine.{run}
use Rattle.types_parse.proofs.grammar.TypeGrammarTableLemmas.{Adds, Reads, take_whole, run_more, text_is_read, is_syntax_at, syntax_end, deep_at, shallow_at}

-- A step of the table to the state that the code represents after a lexeme.
pub record Moved {State : Type 0} (step : State → LexemeKind → Option State) (Shown : State →
    Type 0) (kind : LexemeKind) (s : State) : Type 0 where
  pub next : State
  pub moved : step s kind ≡ Some next
  pub shown : Shown next

module _ {Text State : Type 0} {encoded : Text → Kinds} {ends : Text → List ℕ} {step : State →
    LexemeKind → Option State} {start : State} {prefix : State → Kinds} {brackets ended : State → ℕ}
    {accepted : State → Option Text} (r : Reads encoded ends step start prefix brackets ended
    accepted) (lexemes : Kinds) where
  pub record Reached (Shown : State → Type 0) (count position : ℕ) : Type 0 where
    pub state : State
    pub within : position ≤ length lexemes
    pub ran : run step start (take position lexemes) ≡ Some state
    pub shown : Shown state
    pub open_is : count ≡ brackets state
    pub few : count ≤ 200
    pub none_deep : (j : ℕ) → j < position → IsDeep encoded ends lexemes j → ⊥

  pub reached_first : (Shown : State → Type 0) → Shown start → Reached Shown 0 0
  reached_first Shown h = record {
    state = start;
    within = omega arith;
    ran = refl;
    shown = h;
    open_is = sym r.start_open;
    few = omega arith;
    none_deep = λ j h d. absurd (omega arith);
  }

  module _ {Shown : State → Type 0} {count position : ℕ} (here : Reached Shown count position) where
    -- If no lexeme is left, then the table has read all lexemes and is in the state reached.
    ran_whole : length lexemes ≤ position → run step start lexemes ≡ Some here.state
    ran_whole h = let e : position ≡ length lexemes = omega (arith, here.within) in
        subst (λ ks. run step start ks ≡ Some here.state) (ap (λ k. take k lexemes) e
        ∙ take_whole lexemes) here.ran

    pub refused_end : length lexemes ≤ position → ((s : State) → Shown s → accepted s ≡ None) →
        IsRefusedAsSyntax encoded ends lexemes position
    refused_end h f =
        let e : length lexemes ≡ position = omega (arith, here.within) in
        subst (IsRefusedAsSyntax encoded ends lexemes) e
        (record {
          syntax = syntax_end r lexemes here.state (ran_whole h) (f here.state here.shown);
          shallow = λ j l d. here.none_deep j (omega arith) d;
        })

    pub read_whole : (Is : Text → Type 0) → length lexemes ≤ position →
        ((s : State) → Shown s → (t : Text) × (accepted s ≡ Some t) × Is t) → (t : Text)
        × IsText encoded ends lexemes t × Is t
    read_whole Is h f =
        let a = f here.state here.shown in (
          a.0,
          record {
            encodes = text_is_read r a.0 here.state lexemes (ran_whole h) a.1;
            shallow =
                λ j d. here.none_deep j (omega (arith, d.within, here.within)) d;
          },
          a.2,
        )

    module _ (kind : LexemeKind) (h : position < length lexemes) (e : take (suc position) lexemes
        ≡ take position lexemes ++ kind ∷ []) where
      pub refused_syntax : ((s : State) → Shown s → step s kind ≡ None) → IsRefusedAsSyntax encoded
          ends lexemes position
      refused_syntax f = record {
        syntax = is_syntax_at r lexemes position kind here.state h e here.ran
            (f here.state here.shown);
        shallow = here.none_deep;
      }

      module _ {Next : State → Type 0} (moves : (s : State) → Shown s → Moved step Next kind s)
          (depth : ℕ) (depth_is : (s : State) → Next s → depth ≡ min 201 (ended s)) where
        there : Moved step Next kind here.state
        there = moves here.state here.shown

        ran_there : run step start (take (suc position) lexemes) ≡ Some there.next
        ran_there = ap (run step start) e ∙ run_more step (take position lexemes) start here.state
            (Some there.next) kind here.ran there.moved

        open_there : opened kind count ≡ brackets there.next
        open_there = ap (opened kind) here.open_is
            ∙ sym (added (step here.state kind) there.moved (r.adds here.state kind))
          where
            added : (o : Option State) → o ≡ Some there.next →
                IfSome o (λ n. Adds prefix brackets (prefix here.state) (brackets here.state) kind
                n) → brackets there.next ≡ opened kind (brackets here.state)
            added None g a = absurd (cc)
            added (Some n) g a = let same : n ≡ there.next = cc in ap brackets (sym same) ∙ a.opens

        pub refused_deep : (200 < opened kind count) ⊎ (200 < depth) →
            IsTooDeep encoded ends lexemes position
        refused_deep d =
            let o = open_there in
            let n = depth_is there.next there.shown in
            record {
              deep = deep_at r lexemes position there.next h ran_there
                  (⊎_elim (λ l. inr (omega arith)) (λ l. inl (omega arith)) d);
              first =
                  here.none_deep;
            }

        pub reached_next : opened kind count ≤ 200 → depth ≤ 200 → Reached Next (opened kind count)
            (suc position)
        reached_next few low =
            let o = open_there in
            let n = depth_is there.next there.shown in
            record {
              state = there.next;
              within = omega arith;
              ran = ran_there;
              shown = there.shown;
              open_is = o;
              few = few;
              none_deep = λ j l i. ⊎_elim (λ k. here.none_deep j k i) (λ k. let same : j ≡ position =
                  omega arith in shallow_at r lexemes position there.next ran_there (omega arith)
                  (omega arith) (subst (IsDeep encoded ends lexemes) same i)) (cases_lt j position);
            }
