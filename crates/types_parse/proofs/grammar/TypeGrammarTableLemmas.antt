-- The table and the grammar agree on three questions: whether lexemes are a text, where the syntax
-- error is, and where the lexemes are too deep.
use Rattle.std.proofs.Common.{
  ℕ,
  zero,
  suc,
  ◌-◌,
  ◌≡◌,
  ◌≤◌,
  ◌<◌,
  ◌⊎◌,
  inl,
  inr,
  ⊎_elim,
  ◌∙◌,
  List,
  [],
  ◌∷◌,
  ◌++◌,
  length,
  take,
  Option,
  Some,
  None,
  refl,
  sym,
  ap,
  subst,
  arith,
  append_assoc,
  append-nil,
  lt_of_lt_of_le,
}
use Rattle.std.specs.Prelude.{IfSome, option_and_then, slice_index}
use Rattle.types_lex.specs.declared.lexeme.LexemeKind.{LexemeKind}
use Rattle.types_parse.specs.grammar.Grammar.{Kinds}
use Rattle.types_parse.specs.grammar.Refusals.{opened, open_after, IsViable, IsSyntax, IsDeep}
use Rattle.types_parse.specs.grammar.TypeMachine.{run, Leads, go}
use Rattle.types_parse.proofs.grammar.MachineLemmas.{leads_run}

pub record Adds {State : Type 0} (prefix : State → Kinds) (brackets : State → ℕ) (before : Kinds)
    (count : ℕ) (kind : LexemeKind) (next : State) : Type 0 where
  pub prefixes : prefix next ≡ before ++ kind ∷ []
  pub opens : brackets next ≡ opened kind count

pub record Completes {Text State : Type 0} (encoded : Text → Kinds) (ends : Text → List ℕ)
    (prefix : State → Kinds) (ended : State → ℕ) (s : State) : Type 0 where
  pub text : Text
  pub rest : Kinds
  pub begins : encoded text ≡ prefix s ++ rest
  pub deep : ended s ≤ slice_index (ends text) (length (prefix s) - 1)

-- The table reads the texts of the grammar.
pub record Reads {Text State : Type 0} (encoded : Text → Kinds) (ends : Text → List ℕ)
    (step : State → LexemeKind → Option State) (start : State) (prefix : State → Kinds)
    (brackets ended : State → ℕ) (accepted : State → Option Text) : Type 0 where
  pub final : Text → State
  pub leads : (t : Text) → Leads step ended start (encoded t) (ends t) (final t)
  pub accepts : (t : Text) → accepted (final t) ≡ Some t
  pub accepted_prefix : (s : State) (t : Text) → accepted s ≡ Some t → encoded t ≡ prefix s
  pub start_prefix : prefix start ≡ []
  pub start_open : brackets start ≡ 0
  pub adds : (s : State) (kind : LexemeKind) →
      IfSome (step s kind) (λ next. Adds prefix brackets (prefix s) (brackets s) kind next)
  pub completes : (s : State) → Completes encoded ends prefix ended s

-- If `k` is less than the number of lexemes, then the first `suc k` lexemes are the first `k` and
-- one more.
pub next_lexeme : (lexemes : Kinds) (k : ℕ) → k < length lexemes → (kind : LexemeKind)
    × (take (suc k) lexemes ≡ take k lexemes ++ kind ∷ [])
next_lexeme [] k h = absurd (omega arith)
next_lexeme (kind ∷ rest) zero h = (kind, refl)
next_lexeme (kind ∷ rest) (suc k) h = let i = next_lexeme rest k (omega arith) in
    (i.0, ap (λ xs. kind ∷ xs) i.1)

pub prefixes_prefix : (lexemes : Kinds) (j k : ℕ) → j ≤ k → (rest : Kinds)
    × (take k lexemes ≡ take j lexemes ++ rest)
prefixes_prefix lexemes zero k h = (take k lexemes, refl)
prefixes_prefix [] (suc j) k h = (take k [], refl)
prefixes_prefix (kind ∷ rest) (suc j) zero h = absurd (omega arith)
prefixes_prefix (kind ∷ rest) (suc j) (suc k) h = let i = prefixes_prefix rest j k (omega arith) in
    (i.0, ap (λ xs. kind ∷ xs) i.1)

pub taken : (lexemes : Kinds) (k : ℕ) → k ≤ length lexemes → length (take k lexemes) ≡ k
taken lexemes zero h = refl
taken [] (suc k) h = omega arith
taken (kind ∷ rest) (suc k) h = ap suc (taken rest k (omega arith))

pub take_whole : (lexemes : Kinds) → take (length lexemes) lexemes ≡ lexemes
take_whole [] = refl
take_whole (kind ∷ rest) = ap (λ xs. kind ∷ xs) (take_whole rest)

module _ {State : Type 0} {step : State → LexemeKind → Option State} {ended : State → ℕ} where
  -- If a list of lexemes leads to a state, then each prefix of the list leads to some state.
  through : (xs rest : Kinds) {s t : State} {ds : List ℕ} → Leads step ended s (xs ++ rest) ds t →
      (m : State) × (run step s xs ≡ Some m)
  through [] rest {s = s} p = (s, refl)
  through (kind ∷ xs) rest (go h l p) = let i = through xs rest p in
      (i.0, ap (option_and_then (λ n. run step n xs)) h ∙ i.1)

  ended_through : (xs : Kinds) (kind : LexemeKind) (rest : Kinds) {s t : State} {ds : List ℕ} →
      Leads step ended s (xs ++ kind ∷ [] ++ rest) ds t → (m : State)
      × (run step s (xs ++ kind ∷ []) ≡ Some m) × (slice_index ds (length xs) ≤ ended m)
  ended_through [] kind rest (go {next = n} h l p) = (n, ap (option_and_then (λ m. Some m)) h, l)
  ended_through (first ∷ xs) kind rest (go h l p) = let i = ended_through xs kind rest p in
      (i.0, ap (option_and_then (λ n. run step n (xs ++ kind ∷ []))) h ∙ i.1, i.2)

module _ {State : Type 0} (step : State → LexemeKind → Option State) where
  pub run_more : (xs : Kinds) (s m : State) (n : Option State) (kind : LexemeKind) → run step s xs
      ≡ Some m → step m kind ≡ n → run step s (xs ++ kind ∷ []) ≡ n
  run_more [] s m n kind h e = let i : s ≡ m = cc in
      ap (λ k. option_and_then (λ x. Some x) (step k kind)) i ∙ ap (option_and_then (λ x. Some x)) e
      ∙ some_again n
    where
      some_again : (o : Option State) → option_and_then (λ x. Some x) o ≡ o
      some_again None = refl
      some_again (Some x) = refl
  run_more (first ∷ rest) s m n kind h e = further (step s first) (λ k. run_more rest k m n kind) h
    where
      further : (next : Option State) → ((k : State) → run step k rest ≡ Some m → step m kind ≡ n →
          run step k (rest ++ kind ∷ []) ≡ n) → option_and_then (λ k. run step k rest) next
          ≡ Some m → option_and_then (λ k. run step k (rest ++ kind ∷ [])) next ≡ n
      further None f i = absurd (cc)
      further (Some k) f i = f k i e

module _ {Text State : Type 0} {encoded : Text → Kinds} {ends : Text → List ℕ} {step : State →
    LexemeKind → Option State} {start : State} {prefix : State → Kinds} {brackets ended : State → ℕ}
    {accepted : State → Option Text} (r : Reads encoded ends step start prefix brackets ended
    accepted) where
  -- If reading `xs` leads to a state, then the lexemes `xs` are appended to the lexemes that the
  -- state has read.
  reached : (xs : Kinds) (s t : State) → run step s xs ≡ Some t → (prefix t ≡ prefix s ++ xs)
      × (brackets t ≡ open_after (brackets s) xs)
  reached [] s t h = let e : s ≡ t = cc in (
    ap prefix (sym e) ∙ sym (append-nil (prefix s)),
    ap brackets (sym e),
  )
  reached (kind ∷ rest) s t h = go (step s kind) (r.adds s kind) (λ n. reached rest n t) h
    where
      go : (next : Option State) → IfSome next (λ n. Adds prefix brackets (prefix s) (brackets s) kind
          n) → ((n : State) → run step n rest ≡ Some t → (prefix t ≡ prefix n ++ rest)
          × (brackets t ≡ open_after (brackets n) rest)) → option_and_then (λ n. run step n rest)
          next ≡ Some t → (prefix t ≡ prefix s ++ kind ∷ rest)
          × (brackets t ≡ open_after (brackets s) (kind ∷ rest))
      go None a f e = absurd (cc)
      go (Some n) a f e =
          let i = f n e in (
            i.0 ∙ ap (λ xs. xs ++ rest) a.prefixes ∙ append_assoc (prefix s) (kind ∷ []) rest,
            i.1 ∙ ap (λ m. open_after m rest) a.opens,
          )

  prefix_is_read : (s : State) (xs : Kinds) → run step start xs ≡ Some s → prefix s ≡ xs
  prefix_is_read s xs h = (reached xs start s h).0 ∙ ap (λ ys. ys ++ xs) r.start_prefix

  open_is_read : (s : State) (xs : Kinds) → run step start xs ≡ Some s → brackets s
      ≡ open_after 0 xs
  open_is_read s xs h = (reached xs start s h).1 ∙ ap (λ n. open_after n xs) r.start_open

  pub viable : (s : State) (xs : Kinds) → run step start xs ≡ Some s → IsViable encoded xs
  viable s xs h = let c = r.completes s in
      (c.text, c.rest, c.begins ∙ ap (λ ys. ys ++ c.rest) (prefix_is_read s xs h))

  -- The table reads every prefix of a text.
  pub viable_is_read : (xs : Kinds) → IsViable encoded xs → (m : State)
      × (run step start xs ≡ Some m)
  viable_is_read xs v = through xs v.1
      (subst (λ all. Leads step ended start all (ends v.0) (r.final v.0)) v.2 (r.leads v.0))

  pub viable_prefix : (lexemes : Kinds) (j k : ℕ) → j ≤ k → IsViable encoded (take k lexemes) →
      IsViable encoded (take j lexemes)
  viable_prefix lexemes j k h v = let f = prefixes_prefix lexemes j k h in
      (v.0, f.0 ++ v.1, v.2 ∙ ap (λ xs. xs ++ v.1) f.1 ∙ append_assoc (take j lexemes) f.0 v.1)

  -- ---- texts

  pub text_leads : (t : Text) → run step start (encoded t) ≡ Some (r.final t)
  text_leads t = ap (run step start) (sym (append-nil (encoded t))) ∙ leads_run (r.leads t) []

  pub text_is_read : (t : Text) (s : State) (lexemes : Kinds) → run step start lexemes ≡ Some s →
      accepted s ≡ Some t → encoded t ≡ lexemes
  text_is_read t s lexemes h e = r.accepted_prefix s t e ∙ prefix_is_read s lexemes h

  pub text_is_accepted : (t : Text) (s : State) (lexemes : Kinds) → run step start lexemes
      ≡ Some s → encoded t ≡ lexemes → accepted s ≡ Some t
  text_is_accepted t s lexemes h e = let f : Some s ≡ Some (r.final t) = sym h ∙ ap (run step start)
      (sym e) ∙ text_leads t in let g : s ≡ r.final t = cc in ap accepted g ∙ r.accepts t

  -- At most one tree has a given list of lexemes.
  pub one_text : (t u : Text) → encoded t ≡ encoded u → t ≡ u
  one_text t u e = let f : accepted (r.final u) ≡ Some t = text_is_accepted t (r.final u)
      (encoded u) (text_leads u) e in let g : accepted (r.final u) ≡ Some u = r.accepts u in cc

  -- ---- the first error

  pub is_syntax_at : (lexemes : Kinds) (k : ℕ) (kind : LexemeKind) (s : State) →
      k < length lexemes → take (suc k) lexemes ≡ take k lexemes ++ kind ∷ [] →
      run step start (take k lexemes) ≡ Some s → step s kind ≡ None → IsSyntax encoded lexemes k
  is_syntax_at lexemes k kind s h e g n = record {
    within = omega arith;
    viable = viable s (take k lexemes) g;
    no_more = λ i v. let m = viable_is_read (take (suc k) lexemes) v in
        let f : run step start (take k lexemes ++ kind ∷ []) ≡ None = run_more step (take k lexemes)
        start s None kind g n in absurd (cc (m.1, e, f, ap (run step start) e));
    no_text = λ i t f. absurd (omega arith);
  }

  pub syntax_end : (lexemes : Kinds) (s : State) → run step start lexemes ≡ Some s → accepted s
      ≡ None → IsSyntax encoded lexemes (length lexemes)
  syntax_end lexemes s h e = record {
    within = omega arith;
    viable = subst (IsViable encoded) (sym (take_whole lexemes)) (viable s lexemes h);
    no_more = λ i v. absurd (omega arith);
    no_text = λ i t f. let g : accepted s ≡ Some t = text_is_accepted t s lexemes h f in
        absurd (cc);
  }

  pub syntax_order : (lexemes : Kinds) (j k : ℕ) → IsSyntax encoded lexemes j →
      IsSyntax encoded lexemes k → j < k → ⊥
  syntax_order lexemes j k a b h = a.no_more (omega (arith, b.within))
      (viable_prefix lexemes (suc j) k h b.viable)

  -- ---- too deep

  pub deep_at : (lexemes : Kinds) (k : ℕ) (s : State) → k < length lexemes →
      run step start (take (suc k) lexemes) ≡ Some s → (200 < ended s) ⊎ (200 < brackets s) →
      IsDeep encoded ends lexemes k
  deep_at lexemes k s h g d =
      let c = r.completes s in
      let f : prefix s ≡ take (suc k) lexemes = prefix_is_read s (take (suc k) lexemes) g in
      let n : length (prefix s) - 1 ≡ k = ap (λ xs. length xs - 1) f
      ∙ ap (λ m. m - 1) (taken lexemes (suc k) (omega arith)) ∙ omega arith in
      record {
        text = c.text;
        rest = c.rest;
        within = h;
        begins = c.begins ∙ ap (λ ys. ys ++ c.rest) f;
        deep = ⊎_elim (λ l. inl (lt_of_lt_of_le l
            (subst (λ i. ended s ≤ slice_index (ends c.text) i) n c.deep)))
            (λ l. inr (subst (λ m. 200 < m) (open_is_read s (take (suc k) lexemes) g) l)) d;
      }

  pub shallow_at : (lexemes : Kinds) (k : ℕ) (s : State) → run step start (take (suc k) lexemes)
      ≡ Some s → ended s ≤ 200 → brackets s ≤ 200 → IsDeep encoded ends lexemes k → ⊥
  shallow_at lexemes k s g e b d = ⊎_elim deep_end deep_bracket d.deep
    where
      deep_bracket : 200 < open_after 0 (take (suc k) lexemes) → ⊥
      deep_bracket l = let o = open_is_read s (take (suc k) lexemes) g in absurd (omega arith)

      deep_end : 200 < slice_index (ends d.text) k → ⊥
      deep_end l =
          let x = next_lexeme lexemes k d.within in
          let i = ended_through (take k lexemes) x.0 d.rest
          (subst (λ all. Leads step ended start all (ends d.text) (r.final d.text))
          (d.begins ∙ ap (λ ys. ys ++ d.rest) x.1) (r.leads d.text)) in
          let same : Some i.0 ≡ Some s = sym i.1 ∙ ap (run step start) (sym x.1) ∙ g in
          let there : i.0 ≡ s = cc in
          let low : slice_index (ends d.text) k ≤ ended s =
          subst (λ m. slice_index (ends d.text) k ≤ ended m) there
          (subst (λ n. slice_index (ends d.text) n ≤ ended i.0)
          (taken lexemes k (omega (arith, d.within))) i.2) in
          absurd (omega arith)
