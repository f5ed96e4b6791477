-- If a table reads two texts one after another, then the table reads the concatenation.
use Rattle.std.proofs.Common.{
  ℕ,
  suc,
  ◌≡◌,
  ◌≤◌,
  ◌∙◌,
  List,
  [],
  ◌∷◌,
  ◌++◌,
  length,
  Option,
  Some,
  refl,
  ap,
  arith,
}
use Rattle.std.specs.Prelude.{option_and_then}
use Rattle.types_lex.specs.declared.lexeme.LexemeKind.{LexemeKind}
use Rattle.types_parse.specs.grammar.Grammar.{Kinds}
use Rattle.types_parse.specs.grammar.Depths.{at_last}
use Rattle.types_parse.specs.grammar.TypeMachine.{run, Leads, stop, go}

module _ {State : Type 0} {step : State → LexemeKind → Option State} {ended : State → ℕ} where
  pub onward : {s m t : State} {xs ys : Kinds} {ds es : List ℕ} → Leads step ended s xs ds m →
      Leads step ended m ys es t → Leads step ended s (xs ++ ys) (ds ++ es) t
  onward stop q = q
  onward (go h l p) q = go h l (onward p q)

  pub one_more : {s t : State} {kind : LexemeKind} → step s kind ≡ Some t →
      Leads step ended s (kind ∷ []) (0 ∷ []) t
  one_more h = go h (omega arith) stop

  pub one_deep : {s t : State} {kind : LexemeKind} {n : ℕ} → step s kind ≡ Some t → n ≤ ended t →
      Leads step ended s (kind ∷ []) (n ∷ []) t
  one_deep h l = go h l stop

  pub leads_length : {s t : State} {xs : Kinds} {ds : List ℕ} → Leads step ended s xs ds t →
      length ds ≡ length xs
  leads_length stop = refl
  leads_length (go h l p) = ap suc (leads_length p)

  pub leads_run : {s t : State} {xs : Kinds} {ds : List ℕ} → Leads step ended s xs ds t →
      (rest : Kinds) → run step s (xs ++ rest) ≡ run step t rest
  leads_run stop rest = refl
  leads_run (go {rest = xs} h l p) rest = ap (option_and_then (λ next. run step next (xs ++ rest)))
      h ∙ leads_run p rest

  -- If the final state admits a type of depth `n`, then the last lexeme may end a type of depth
  -- `n`.
  pub raised : {s t : State} {xs : Kinds} {ds : List ℕ} (n : ℕ) → n ≤ ended t →
      Leads step ended s xs ds t → Leads step ended s xs (at_last n ds) t
  raised n e stop = stop
  raised n e (go h l stop) = go h (omega arith) stop
  raised n e (go h l (go h' l' p)) = go h l (raised n e (go h' l' p))
