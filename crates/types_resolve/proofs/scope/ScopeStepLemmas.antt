-- The graph of steps, declaration by declaration.
use Rattle.std.proofs.Common.{ℕ, ◌<◌, ◌≤◌, ◌+◌, ◌≡◌, ⊎_elim, inl, inr, Some, List, [], ◌∷◌, ◌++◌}
use Rattle.std.proofs.Common.{length, get_or, sym, ap, subst, arith, ◌∙◌}
use Rattle.std.specs.Prelude.{slice_get, Contains, ◌↔◌}
use Rattle.std.proofs.Math.ListN.{get_or-append}
use Rattle.std.proofs.Math.Seq.{get_or-append_seam}
use Rattle.std.proofs.Common.{length-append}
use Rattle.std.proofs.lemmas.Bool.{cases_lt}
use Rattle.std.proofs.lemmas.List.Elements.{Contains-append_left, Contains-append_right, Contains-append_cases}
use Rattle.std.proofs.lemmas.Option.{same_Some, slice_get_within}
use Rattle.base_data.proofs.model.Options.{Contains-first, Contains-none, Contains-cases}
use Rattle.types_spec.specs.declared.types.decl.Decl.{Decl}
use Rattle.types_resolve.specs.declared.scope.site.Site.{Site}
use Rattle.types_resolve.specs.scope.StepGraph.{AdjacencyLists, IsEdge}
use Rattle.types_resolve.specs.scope.AbbreviationSteps.{HasStep, IsStepGraph}
use Rattle.types_resolve.proofs.scope.ScopeLeastLemmas.{Before, AtItem, before_more, before_end}

-- ---- the steps of one declaration

module _ {X : Type 0} (xs : List X) (LeadsTo : X → ℕ → Type 0) where
  -- `found` contains the declarations to which the uses with an index below `i` lead.
  abbrev pub AreLed : ℕ → List ℕ → Type 0
  AreLed i found = (j : ℕ) → Contains found j ↔ Before (AtItem xs LeadsTo) i j

  at_item :
      (i : ℕ) (x : X) → slice_get xs i ≡ Some x → (j : ℕ) → AtItem xs LeadsTo i j → LeadsTo x j
  at_item i x is j there = subst (λ y. LeadsTo y j) (same_Some there.0 x (sym there.1 ∙ is)) there.2

  pub led_push :
      (i : ℕ) (x : X) (found : List ℕ) (j : ℕ) → slice_get xs i ≡ Some x
      → ((k : ℕ) → (Some j ≡ Some k) ↔ LeadsTo x k) → AreLed i found
      → AreLed (i + 1) (found ++ j ∷ [])
  led_push i x found j is leads led = λ k. (
    λ among. (before_more (AtItem xs LeadsTo) i k).0 (⊎_elim
        (λ old. inl ((led k).0 old))
        (λ last. inr (x, is, (leads k).0 (ap Some (only k last))))
        (Contains-append_cases found (j ∷ []) k among)),
    λ some. ⊎_elim
        (λ old. Contains-append_left found (j ∷ []) k ((led k).1 old))
        (λ here. subst (Contains (found ++ j ∷ [])) (same_Some j k ((leads k).1 (at_item i x is k here)))
        (Contains-append_right found (j ∷ []) j (Contains-first j [])))
        ((before_more (AtItem xs LeadsTo) i k).1 some),
  ) where
    only : (k : ℕ) → Contains (j ∷ []) k → j ≡ k
    only k last = ⊎_elim (λ same. same) (λ none. absurd (Contains-none k none)) (Contains-cases j [] k last)

  pub led_skip :
      (i : ℕ) (x : X) (found : List ℕ) → slice_get xs i ≡ Some x
      → ((k : ℕ) → ¬ LeadsTo x k) → AreLed i found → AreLed (i + 1) found
  led_skip i x found is never led = λ k. (
    λ among. (before_more (AtItem xs LeadsTo) i k).0 (inl ((led k).0 among)),
    λ some. ⊎_elim (λ old. (led k).1 old) (λ here. absurd (never k (at_item i x is k here)))
        ((before_more (AtItem xs LeadsTo) i k).1 some),
  )

  pub led_all :
      (i : ℕ) (found : List ℕ) → i ≤ length xs → length xs ≤ i → AreLed i found → (j : ℕ)
      → Contains found j ↔ ((x : X) × Contains xs x × LeadsTo x j)
  led_all i found le ge led = λ j.
      let e : i ≡ length xs = omega arith in
      let all = subst (λ n. AreLed n found) e led in
      let items = before_end xs LeadsTo j in
      (λ among. items.0 ((all j).0 among), λ some. (all j).1 (items.1 some))

-- ---- the graph

-- The graph contains the steps of the declarations with an index below `i`.
pub record AreFirstSteps (decls : List Decl) (sites : List Site) (graph : AdjacencyLists) (i : ℕ) : Type 0 where
  pub counted : length graph ≡ i
  pub edges :
      (k j : ℕ) (d : Decl) (site : Site) → k < i → slice_get decls k ≡ Some d
      → slice_get sites k ≡ Some site → IsEdge graph k j ↔ HasStep decls d site.uses j

module _ (decls : List Decl) (sites : List Site) (graph : AdjacencyLists) (i : ℕ)
    (so_far : AreFirstSteps decls sites graph i) where
  pub more_steps :
      (d : Decl) (site : Site) (steps : List ℕ) → slice_get decls i ≡ Some d
      → slice_get sites i ≡ Some site
      → ((j : ℕ) → Contains steps j ↔ HasStep decls d site.uses j)
      → AreFirstSteps decls sites (graph ++ steps ∷ []) (i + 1)
  more_steps d site steps d_is site_is same = record {
    counted = omega (arith, length-append graph (steps ∷ []), so_far.counted);
    edges = λ k j e at below e_is at_is. ⊎_elim
        (λ earlier. let within : k < length graph = omega (arith, so_far.counted) in
        subst (λ (nodes : List ℕ). Contains nodes j ↔ HasStep decls e at.uses j)
        (sym (get_or-append graph (steps ∷ []) [] k within)) (so_far.edges k j e at earlier e_is at_is))
        (λ last. let here : k ≡ length graph = omega (arith, so_far.counted) in
        let now : k ≡ i = omega arith in
        subst (λ (nodes : List ℕ). Contains nodes j ↔ HasStep decls e at.uses j)
        (sym (ap (λ n. get_or (graph ++ steps ∷ []) n []) here ∙ get_or-append_seam graph steps [] []))
        (subst (λ (f : Decl). Contains steps j ↔ HasStep decls f at.uses j)
        (same_Some d e (sym d_is ∙ subst (λ n. slice_get decls n ≡ Some e) now e_is))
        (subst (λ (other : Site). Contains steps j ↔ HasStep decls d other.uses j)
        (same_Some site at (sym site_is ∙ subst (λ n. slice_get sites n ≡ Some at) now at_is)) (same j))))
        (cases_lt k i);
  }

  pub all_steps :
      i ≤ length decls → length decls ≤ i → IsStepGraph decls sites graph
  all_steps le ge = record {
    counted = omega (arith, so_far.counted);
    edges = λ k j d site d_is site_is.
        let below : k < length decls = slice_get_within decls k d d_is in
        so_far.edges k j d site (omega arith) d_is site_is;
  }
