-- A declaration breaks the rule against cycles if and only if its node lies on a cycle of the graph
-- of steps.
use Rattle.std.proofs.Common.{ℕ, ◌<◌, ◌+◌, ◌≡◌, ⊎_elim, inl, inr, Option, Some, None, List, [], ◌∷◌}
use Rattle.std.proofs.Common.{Bool, false, length, sym, ap, subst, arith, ◌∙◌}
use Rattle.std.proofs.lemmas.List.{length-map}
use Rattle.std.specs.Prelude.{slice_get, Contains, ◌↔◌, IsTrue, IsSome, option_map}
use Rattle.std.proofs.lemmas.Option.{same_Some, slice_get-map, slice_get_within, slice_get-get_or}
use Rattle.base_data.proofs.model.Options.{slice_get-Contains, slice_get_there}
use Rattle.types_spec.specs.declared.types.decl.Decl.{Decl}
use Rattle.types_spec.specs.types.Declarations.{abbreviated}
use Rattle.types_spec.specs.types.Occurrence.{DeclPositions, Placed, use_of}
use Rattle.types_spec.specs.types.Scope.{AreSteps, BreaksInFile, IsStep, NamesBreak, cyclic, twice}
use Rattle.types_spec.specs.types.Scope.{declared_names, decls_of}
use Rattle.types_resolve.specs.declared.scope.site.Site.{Site}
use Rattle.types_resolve.specs.scope.Breaks.{names_of_decls}
use Rattle.types_resolve.specs.scope.Cyclic.{CyclicAt, ComesBefore, IsCyclicName}
use Rattle.types_resolve.specs.scope.StepGraph.{AdjacencyLists, IsEdge, IsPath, Reaches, IsOnCycle}
use Rattle.types_resolve.specs.scope.Least.{IsLeast, earliest, position_if}
use Rattle.types_resolve.specs.scope.Sites.{AreSites, IsSite}
use Rattle.types_resolve.specs.scope.AbbreviationSteps.{HasStep, IsStepGraph}
use Rattle.types_resolve.proofs.scope.ScopeFileLemmas.{decl_at, name_placed, not_earlier}
use Rattle.types_resolve.proofs.scope.ScopeLeastLemmas.{Before, before_more, least_if, least_more, least_same}
use Rattle.types_resolve.proofs.scope.ScopeSearchLemmas.{path_within}

-- ---- steps and edges

module _ (all : List DeclPositions) (distinct : (k : ℕ) → ¬ NamesBreak all twice k) (sites : List Site)
    (graph : AdjacencyLists) (counted : length sites ≡ length all)
    (stand : (i : ℕ) (site : Site) (d : DeclPositions) → slice_get sites i ≡ Some site
    → slice_get all i ≡ Some d → IsSite site d)
    (is : IsStepGraph (decls_of all) sites graph) where
  named :
      (j : ℕ) (e : DeclPositions) → slice_get all j ≡ Some e
      → slice_get (names_of_decls (decls_of all)) j ≡ Some e.decl.name
  named j e at = slice_get-map (λ (x : Decl). x.name) (decls_of all) j
      ∙ ap (option_map (λ (x : Decl). x.name)) (decl_at all j e at)

  site_step :
      (i j : ℕ) (d e : DeclPositions) (site : Site) → slice_get all i ≡ Some d
      → slice_get all j ≡ Some e → slice_get sites i ≡ Some site
      → HasStep (decls_of all) d.decl site.uses j ↔ IsStep all d e
  site_step i j d e site d_at e_at site_at = (to, from) where
    here : IsSite site d
    here = stand i site d site_at d_at

    to : HasStep (decls_of all) d.decl site.uses j → IsStep all d e
    to (one_abbreviates, u, among, (first, other, other_is, step)) =
        let other_same : other ≡ e.decl = same_Some other e.decl (sym other_is ∙ decl_at all j e e_at) in
        let name_same : u.name ≡ e.decl.name = same_Some u.name e.decl.name (sym first.is ∙ named j e e_at) in
        let occurs = here.used.occur u among in
        record {
          first = slice_get-Contains all i d d_at;
          second = slice_get-Contains all j e e_at;
          one_group = sym step.one_group ∙ ap (λ (x : Decl). x.group) other_same;
          one_abbreviates = one_abbreviates;
          other_abbreviates = subst (λ (x : Decl). IsSome (abbreviated x.body)) other_same step.abbreviates;
          position = u.position;
          arguments = occurs.0;
          used = subst (λ in_tag. Contains d.occurrences (use_of u.position e.decl.name occurs.0 in_tag)) step.outside
              (subst (λ name. Contains d.occurrences (use_of u.position name occurs.0 u.in_tag)) name_same occurs.2);
        }

    from : IsStep all d e → HasStep (decls_of all) d.decl site.uses j
    from step = let known = here.used.all step.position e.decl.name step.arguments false step.used in (
      step.one_abbreviates,
      known.0,
      known.1,
      (
        record {
          below = slice_get_within (decls_of all) j e.decl (decl_at all j e e_at);
          is = named j e e_at ∙ ap Some (sym known.4);
          first = not_earlier all distinct known.0.name j e e_at (sym known.4);
        },
        e.decl,
        decl_at all j e e_at,
        record {
          outside = known.5;
          one_group = sym step.one_group;
          abbreviates = step.other_abbreviates;
        },
      ),
    )

  edge_step :
      (i j : ℕ) (d e : DeclPositions) → slice_get all i ≡ Some d → slice_get all j ≡ Some e
      → IsEdge graph i j ↔ IsStep all d e
  edge_step i j d e d_at e_at =
      let within : i < length all = slice_get_within all i d d_at in
      let site = slice_get_there sites i (omega (arith, counted)) in
      let steps = is.edges i j d.decl site.0 (decl_at all i d d_at) site.1 in
      let same = site_step i j d e site.0 d_at e_at site.1 in
      (λ edge. same.0 (steps.0 edge), λ step. steps.1 (same.1 step))

  steps_of_path :
      (i : ℕ) (between : List ℕ) (j : ℕ) (d e : DeclPositions) → slice_get all i ≡ Some d
      → slice_get all j ≡ Some e → IsPath graph i between j
      → (ds : List DeclPositions) × AreSteps all d ds e
  steps_of_path i [] j d e d_at e_at edge = ([], (edge_step i j d e d_at e_at).0 edge)
  steps_of_path i (next ∷ between) j d e d_at e_at path =
      let node : next < length graph = path_within graph next between j path.1 in
      let f = slice_get_there all next (omega (arith, is.counted, length-map all (λ (x : DeclPositions). x.decl))) in
      let rest = steps_of_path next between j f.0 e f.1 e_at path.1 in
      (f.0 ∷ rest.0, ((edge_step i next d f.0 d_at f.1).0 path.0, rest.1))

  path_of_steps :
      (i : ℕ) (ds : List DeclPositions) (j : ℕ) (d e : DeclPositions) → slice_get all i ≡ Some d
      → slice_get all j ≡ Some e → AreSteps all d ds e → Reaches graph i j
  path_of_steps i [] j d e d_at e_at step = ([], (edge_step i j d e d_at e_at).1 step)
  path_of_steps i (f ∷ ds) j d e d_at e_at steps =
      let among = steps.0.second in
      let next = among.0 in
      let f_at : slice_get all next ≡ Some f = slice_get-get_or all next f among.1 ∙ ap Some among.2 in
      let rest = path_of_steps next ds j f e f_at e_at steps.1 in
      (next ∷ rest.0, ((edge_step i next d f d_at f_at).1 steps.0, rest.1))

  cyclic_name :
      (k : ℕ) → IsCyclicName graph (declared_names all) k ↔ BreaksInFile all cyclic k
  cyclic_name k = (to, ⊎_elim (λ never. absurd never) from) where
    to : IsCyclicName graph (declared_names all) k → BreaksInFile all cyclic k
    to (i, below, (p, p_is, (position, cycle))) =
        let d = slice_get_there all i (omega (arith, below, length-map {B = Placed} all (λ (x : DeclPositions). (x.position, x.decl.name)))) in
        let p_same : p ≡ (d.0.position, d.0.decl.name) =
        same_Some p (d.0.position, d.0.decl.name) (sym p_is ∙ name_placed all i d.0 d.1) in
        let steps = steps_of_path i cycle.0 i d.0 d.0 d.1 d.1 cycle.1 in
        inr (
          d.0,
          slice_get-Contains all i d.0 d.1,
          (sym (ap (λ (x : Placed). x.0) p_same) ∙ position, steps.0, steps.1),
        )

    from :
        (d : DeclPositions) × Contains all d × ((d.position ≡ k) × (between : List DeclPositions) × AreSteps all d between d)
        → IsCyclicName graph (declared_names all) k
    from (d, among, (position, between, steps)) =
        let i = among.0 in
        let d_at : slice_get all i ≡ Some d = slice_get-get_or all i d among.1 ∙ ap Some among.2 in (
          i,
          slice_get_within (declared_names all) i (d.position, d.decl.name) (name_placed all i d d_at),
          ((d.position, d.decl.name), name_placed all i d d_at, (position, path_of_steps i between i d d d_at d_at steps)),
        )

pub least_of_file :
    (decls : List Decl) (names : List Placed) (sites : List Site) (all : List DeclPositions) (graph : AdjacencyLists)
    → AreSites decls names sites all → ((k : ℕ) → ¬ NamesBreak all twice k)
    → IsStepGraph decls sites graph → (best : Option ℕ) → IsLeast (IsCyclicName graph names) best
    → IsLeast (BreaksInFile all cyclic) best
least_of_file decls names sites all graph are distinct is best least =
    let steps = subst (λ (ds : List Decl). IsStepGraph ds sites graph) are.declares is in
    let same = cyclic_name all distinct sites graph are.counted are.stand steps in
    least_same (IsCyclicName graph (declared_names all)) (BreaksInFile all cyclic) best
    (subst (λ (ns : List Placed). IsLeast (IsCyclicName graph ns) best) are.declared least)
    (λ k. (same k).0) (λ k. (same k).1)

-- ---- the loop over the names

module _ (graph : AdjacencyLists) (names : List Placed) (i : ℕ) (p : Placed) (best : Option ℕ)
    (p_is : slice_get names i ≡ Some p)
    (so_far : IsLeast (Before (CyclicAt graph names) i) best) where
  same_position : (k : ℕ) → CyclicAt graph names i k → (p.0 ≡ k) × IsOnCycle graph i
  same_position k (q, q_is, at) =
      subst (λ (x : Placed). (x.0 ≡ k) × IsOnCycle graph i) (same_Some q p (sym q_is ∙ p_is)) at

  pub more_cyclic :
      (back : Bool) → IsTrue back ↔ IsOnCycle graph i
      → IsLeast (Before (CyclicAt graph names) (i + 1)) (earliest best (position_if back p.0))
  more_cyclic back is = least_more (CyclicAt graph names) i best (position_if back p.0) so_far
      (least_same (λ k. (p.0 ≡ k) × IsOnCycle graph i) (CyclicAt graph names i) (position_if back p.0)
      (least_if (IsOnCycle graph i) back p.0 is.0 is.1) (λ k here. (p, p_is, here)) same_position)

  -- If the lexeme of a name is not before the best lexeme, then the best lexeme stays least.
  pub late_cyclic :
      ¬ ComesBefore p.0 best → IsLeast (Before (CyclicAt graph names) (i + 1)) best
  late_cyclic late = by_best best so_far late where
    by_best :
        (b : Option ℕ) → IsLeast (Before (CyclicAt graph names) i) b → ¬ ComesBefore p.0 b
        → IsLeast (Before (CyclicAt graph names) (i + 1)) b
    by_best None least no_best = absurd (no_best tt)
    by_best (Some b) least after = (
      (before_more (CyclicAt graph names) i b).0 (inl least.0),
      λ j before some. ⊎_elim (λ old. least.1 j before old)
          (λ here. after (let e : p.0 ≡ j = (same_position j here).0 in omega arith))
          ((before_more (CyclicAt graph names) i j).1 some),
    )
