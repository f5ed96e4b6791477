-- Lemmas about the lines that copy from a value, and the values into which the lines copy.
use Rattle.std.proofs.Common.{ℕ, ◌≡◌, ◌≤◌, ◌∙◌, Bool, true, false, cond, eqb, List, [], ◌∷◌, ◌++◌, get_or, Option, Some, None, refl, sym, ap, subst, append_assoc, append-nil, eqb-true, eq-eqb}
use Rattle.std.specs.Prelude.{All, Any, MatchOption, option_to_list}
use Rattle.std.specs.List.{cons_option}
use Rattle.std.proofs.lemmas.List.Elements.{All-nil, All-cons, All-head, All-tail, All-contains, All-contains_itself}
use Rattle.text_path.specs.LineOrder.{positions_of}
use Rattle.text_path.specs.Uses.{CopiesFrom, IsUnused, IsLastUse, use_by, uses_in, AreUses}
use Rattle.text_path.specs.declared.edits.Action.{Action}
use Rattle.text_path.specs.declared.edits.Action.TheVariants as actions
use Rattle.text_path.specs.declared.edits.ScriptLine.{ScriptLine}

-- ---- the pairs of the lines, one after another

pub one_more : (done : List (ℕ × ℕ)) (used : Option (ℕ × ℕ)) (more : List (ℕ × ℕ)) → (done ++ option_to_list used) ++ more ≡ done ++ cons_option used more
one_more done None more = ap (λ l. l ++ more) (append-nil done)
one_more done (Some used) more = append_assoc done (used ∷ []) more

-- ---- properties of the values that are copied into

module _ (j : ℕ) (P : ℕ → Type 0) where
  abbrev Into : ℕ × ℕ → Type 0
  Into used = P used.1

  abbrev IntoBy : ScriptLine → Type 0
  IntoBy line = CopiesFrom j line.action → P line.value

  -- Lemmas about the pairs of one more line.
  module _ (value : ℕ) (uses : List (ℕ × ℕ)) where
    abbrev With : Action → Type 0
    With action = All Into (positions_of j (cons_option (use_by value action) uses))

    one_into : (action : Action) → (CopiesFrom j action → P value) → All Into (positions_of j uses) → With action
    one_into (actions.Edit edit) one all = all
    one_into (actions.Graft path other source) one all = by (eqb other j) refl where
      by : (b : Bool) → eqb other j ≡ b → All Into (cond b ((other, value) ∷ positions_of j uses) (positions_of j uses))
      by true is = All-cons Into (other, value) (positions_of j uses) (one (eqb-true other j is)) all
      by false is = all

    one_from : (action : Action) → With action → (CopiesFrom j action → P value) × All Into (positions_of j uses)
    one_from (actions.Edit edit) all = (λ no. absurd no, all)
    one_from (actions.Graft path other source) all = by (eqb other j) refl all where
      by : (b : Bool) → eqb other j ≡ b → All Into (cond b ((other, value) ∷ positions_of j uses) (positions_of j uses))
          → (other ≡ j → P value) × All Into (positions_of j uses)
      by true is both = (λ _. All-head Into (other, value) (positions_of j uses) both, All-tail Into (other, value) (positions_of j uses) both)
      by false is rest = (λ same. let no : false ≡ true = sym is ∙ eq-eqb other j same in absurd (cc no), rest)

  pub all_into : (lines : List ScriptLine) → All IntoBy lines → All Into (positions_of j (uses_in lines))
  all_into [] all = All-nil Into
  all_into (line ∷ lines) all =
      one_into line.value (uses_in lines) line.action (All-head IntoBy line lines all) (all_into lines (All-tail IntoBy line lines all))

  pub all_from : (lines : List ScriptLine) → All Into (positions_of j (uses_in lines)) → All IntoBy lines
  all_from [] all = All-nil IntoBy
  all_from (line ∷ lines) all =
      let both = one_from line.value (uses_in lines) line.action all in
      All-cons IntoBy line lines both.0 (all_from lines both.1)

-- ---- the last one

module _ (lines : List ScriptLine) (uses : List (ℕ × ℕ)) (are : AreUses lines uses) (j : ℕ) where
  pub unused : positions_of j uses ≡ [] → IsUnused lines j
  unused none =
      let empty : [] ≡ positions_of j (uses_in lines) = sym none ∙ are.stable j in
      all_from j (λ k. ⊥) lines (subst (All (λ (used : ℕ × ℕ). ⊥)) empty (All-nil (λ (used : ℕ × ℕ). ⊥)))

  abbrev IsTaken : ℕ → Type 0
  IsTaken k = Any (λ (line : ScriptLine). CopiesFrom j line.action × (line.value ≡ k)) lines

  into_each : All (λ (line : ScriptLine). CopiesFrom j line.action → IsTaken line.value) lines
  into_each i d within copies =
      let here = All-contains_itself lines i d within in
      (here.0, get_or lines i d, here.1, here.2, (copies, refl))

  pub used_last : (k : ℕ) → Any (λ used. used.1 ≡ k) (positions_of j uses) × All (λ used. used.1 ≤ k) (positions_of j uses) → IsLastUse lines j k
  used_last k ((i, used, within, at, is), all) = (
    subst IsTaken is (All-contains (λ (u : ℕ × ℕ). IsTaken u.1) (positions_of j uses) used
        (subst (All (λ (u : ℕ × ℕ). IsTaken u.1)) (sym (are.stable j)) (all_into j IsTaken lines into_each)) (i, within, at)),
    all_from j (λ value. value ≤ k) lines (subst (All (λ (u : ℕ × ℕ). u.1 ≤ k)) (are.stable j) all),
  )

  pub last_is : (result : Option ℕ) → MatchOption result (positions_of j uses ≡ []) (λ k. Any (λ used. used.1 ≡ k) (positions_of j uses) × All (λ used. used.1 ≤ k) (positions_of j uses))
      → MatchOption result (IsUnused lines j) (IsLastUse lines j)
  last_is None none = unused none
  last_is (Some k) last = used_last k last
