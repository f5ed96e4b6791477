-- At the end of a search, the seen nodes are exactly the reachable nodes.
use Rattle.std.proofs.Common.{ℕ, zero, suc, ◌<◌, ◌≤◌, ◌+◌, ◌≡◌, ◌⊎◌, ⊎_elim, inl, inr, Option, Some, None, List, [], ◌∷◌, ◌++◌, Bool, true, false, cond}
use Rattle.std.proofs.Common.{length, get_or, refl, sym, ap, subst, arith, ◌∙◌}
use Rattle.std.specs.Prelude.{slice_get, slice_set, Contains, IsTrue, ◌↔◌}
use Rattle.std.proofs.Math.ListN.{length-set, length-replicate, replicate}
use Rattle.std.proofs.lemmas.List.{get_or-replicate}
use Rattle.std.proofs.lemmas.Bool.{cases_lt, false≢true}
use Rattle.std.proofs.lemmas.List.Sums.{sum_by-set}
use Rattle.std.proofs.lemmas.List.Elements.{Contains-append_left, Contains-append_right, Contains-append_cases}
use Rattle.std.proofs.lemmas.Option.{same_Some, none-some, slice_get_within, slice_get-get_or, get_or_from_slice_get}
use Rattle.std.proofs.lemmas.Option.{slice_get_read}
use Rattle.base_data.proofs.model.Options.{same_or_not, slice_get-Contains, Contains-first, Contains-later, Contains-none, Contains-cases}
use Rattle.types_resolve.specs.scope.StepGraph.{AdjacencyLists, IsEdge, IsPath, Reaches, IsOnCycle}
use Rattle.types_resolve.specs.scope.CycleSearch.{IsSeen, IsUnseen, unseen_count, IsExpanded, IsSearch}
use Rattle.types_resolve.proofs.scope.ScopeGraphLemmas.{slice_get-set_same, slice_get-set_other}

-- ---- paths

path_more :
    (graph : AdjacencyLists) (i : ℕ) (between : List ℕ) (j k : ℕ) → IsPath graph i between j → IsEdge graph j k
    → IsPath graph i (between ++ j ∷ []) k
path_more graph i [] j k edge more = (edge, more)
path_more graph i (next ∷ between) j k path more =
    (path.0, path_more graph next between j k path.1 more)

reaches_more :
    (graph : AdjacencyLists) (start i j : ℕ) → (i ≡ start) ⊎ Reaches graph start i → IsEdge graph i j
    → Reaches graph start j
reaches_more graph start i j from edge = ⊎_elim
    (λ same. ([], subst (λ n. IsEdge graph n j) same edge))
    (λ path. (path.0 ++ i ∷ [], path_more graph start path.0 i j path.1 edge))
    from

-- ---- a node becomes seen

differ : Some false ≡ Some true → ⊥
differ e = false≢true (same_Some false true e)

unseen_before :
    (next : ℕ) (seen : List Bool) → IsUnseen seen next → (i : ℕ)
    → IsUnseen (slice_set seen next true) i → IsUnseen seen i
unseen_before next seen unseen i now = by_position (same_or_not i next) where
  by_position : (i ≡ next) ⊎ (¬ (i ≡ next)) → IsUnseen seen i
  by_position (inl same) = absurd (differ (sym (subst (IsUnseen (slice_set seen next true)) same now)
      ∙ slice_get-set_same seen next true (slice_get_within seen next false unseen)))
  by_position (inr apart) = sym (slice_get-set_other seen next i true apart) ∙ now

module _ (graph : AdjacencyLists) (start node next : ℕ) (seen : List Bool) (stack : List ℕ)
    (search : IsSearch graph start seen (node ∷ stack)) (unseen : IsUnseen seen next)
    (edge : IsEdge graph node next) where
  seen_next : IsSeen (slice_set seen next true) next
  seen_next = slice_get-set_same seen next true (slice_get_within seen next false unseen)

  seen_before : (i : ℕ) → IsSeen (slice_set seen next true) i → (i ≡ next) ⊎ IsSeen seen i
  seen_before i now = by_position (same_or_not i next) where
    by_position : (i ≡ next) ⊎ (¬ (i ≡ next)) → (i ≡ next) ⊎ IsSeen seen i
    by_position (inl same) = inl same
    by_position (inr apart) = inr (sym (slice_get-set_other seen next i true apart) ∙ now)

  -- If a node is waiting before a push, then the node is waiting after the push.
  waits : (i : ℕ) → Contains (node ∷ stack) i → Contains (node ∷ (stack ++ next ∷ [])) i
  waits i among = ⊎_elim
      (λ here. subst (Contains (node ∷ (stack ++ next ∷ []))) here (Contains-first node (stack ++ next ∷ [])))
      (λ later. Contains-later node (stack ++ next ∷ []) i (Contains-append_left stack (next ∷ []) i later))
      (Contains-cases node stack i among)

  waits_next : Contains (node ∷ (stack ++ next ∷ [])) next
  waits_next = Contains-later node (stack ++ next ∷ []) next
      (Contains-append_right stack (next ∷ []) next (Contains-first next []))

  waited : (i : ℕ) → Contains (node ∷ (stack ++ next ∷ [])) i → Contains (node ∷ stack) i ⊎ (i ≡ next)
  waited i among = ⊎_elim
      (λ here. inl (subst (Contains (node ∷ stack)) here (Contains-first node stack)))
      (λ later. ⊎_elim
      (λ old. inl (Contains-later node stack i old))
      (λ last. ⊎_elim (λ same. inr (sym same)) (λ none. absurd (Contains-none i none))
      (Contains-cases next [] i last))
      (Contains-append_cases stack (next ∷ []) i later))
      (Contains-cases node (stack ++ next ∷ []) i among)

  pub search_push : IsSearch graph start (slice_set seen next true) (node ∷ (stack ++ next ∷ []))
  search_push = record {
    counted = length-set seen next true ∙ search.counted;
    reached = λ i now. ⊎_elim (λ same. subst (Reaches graph start) (sym same) reached_next)
        (search.reached i) (seen_before i now);
    within = λ i among. ⊎_elim (search.within i)
        (λ same. let b : next < length seen = slice_get_within seen next false unseen in
        let n : length seen ≡ length graph = search.counted in omega arith)
        (waited i among);
    from_start = λ i among. ⊎_elim (search.from_start i)
        (λ same. inr (subst (Reaches graph start) (sym same) reached_next))
        (waited i among);
    pending = λ i from. ⊎_elim (λ is_start. kept i (inl is_start))
        (λ now. ⊎_elim (λ same. inl (subst (Contains (node ∷ (stack ++ next ∷ []))) (sym same) waits_next))
        (λ old. kept i (inr old)) (seen_before i now)) from;
  } where
    reached_next : Reaches graph start next
    reached_next = reaches_more graph start node next (search.from_start node (Contains-first node stack)) edge

    kept :
        (i : ℕ) → (i ≡ start) ⊎ IsSeen seen i
        → Contains (node ∷ (stack ++ next ∷ [])) i ⊎ IsExpanded graph (slice_set seen next true) i
    kept i from = ⊎_elim (λ among. inl (waits i among))
        (λ expanded. inr (λ j leads now. expanded j leads (unseen_before next seen unseen j now)))
        (search.pending i from)

pub unseen_count-set :
    (seen : List Bool) (next : ℕ) → IsUnseen seen next
    → unseen_count (slice_set seen next true) + 1 ≡ unseen_count seen
unseen_count-set seen next unseen =
    let was : get_or seen next true ≡ false = get_or_from_slice_get seen next false true unseen in
    let f : Bool → ℕ = λ s. cond s 0 1 in
    let was_one : f (get_or seen next true) ≡ 1 = ap f was in
    omega (arith, sum_by-set f seen next true true (slice_get_within seen next false unseen), was_one)

-- ---- a node is expanded

pub search_expanded :
    (graph : AdjacencyLists) (start node : ℕ) (seen : List Bool) (stack : List ℕ)
    → IsSearch graph start seen (node ∷ stack) → IsExpanded graph seen node
    → IsSearch graph start seen stack
search_expanded graph start node seen stack search expanded = record {
  counted = search.counted;
  reached = search.reached;
  within = λ i among. search.within i (Contains-later node stack i among);
  from_start = λ i among. search.from_start i (Contains-later node stack i among);
  pending = λ i from. ⊎_elim
      (λ among. ⊎_elim (λ here. inr (subst (IsExpanded graph seen) here expanded)) (λ later. inl later)
      (Contains-cases node stack i among))
      (λ done. inr done)
      (search.pending i from);
}

-- ---- the loop over the successors of a node

-- The invariant of the loop over the successors of a node: the search has seen the first `count`
-- successors.
pub record IsExpanding (graph : AdjacencyLists) (node : ℕ) (before : List Bool) (waiting : List ℕ)
    (seen : List Bool) (stack nodes : List ℕ) (count : ℕ) : Type 0 where
  pub search :
      (start : ℕ) → IsSearch graph start before (node ∷ waiting)
      → IsSearch graph start seen (node ∷ stack)
  pub passed : (k : ℕ) → k < count → ¬ IsUnseen seen (get_or nodes k 0)

module _ (graph : AdjacencyLists) (node : ℕ) (before : List Bool) (waiting : List ℕ) (seen : List Bool)
    (stack nodes : List ℕ) (count : ℕ)
    (expanding : IsExpanding graph node before waiting seen stack nodes count) where
  pub expanding_push :
      count < length nodes → nodes ≡ get_or graph node [] → IsUnseen seen (get_or nodes count 0)
      → IsExpanding graph node before waiting (slice_set seen (get_or nodes count 0) true)
      (stack ++ get_or nodes count 0 ∷ []) nodes (count + 1)
  expanding_push below are unseen = record {
    search = λ start from. search_push graph start node next seen stack (expanding.search start from) unseen edge;
    passed = λ k before_end now. ⊎_elim
        (λ earlier. expanding.passed k earlier (unseen_before next seen unseen (get_or nodes k 0) now))
        (λ last. let here : k ≡ count = omega arith in
        differ (sym (subst (IsUnseen (slice_set seen next true)) (ap (λ n. get_or nodes n 0) here) now)
        ∙ slice_get-set_same seen next true (slice_get_within seen next false unseen)))
        (cases_lt k count);
  } where
    next : ℕ
    next = get_or nodes count 0

    edge : IsEdge graph node next
    edge = subst (λ (all : List ℕ). Contains all next) are
        (slice_get-Contains nodes count next (slice_get-get_or nodes count 0 below))

  pub expanding_skip :
      ¬ IsUnseen seen (get_or nodes count 0)
      → IsExpanding graph node before waiting seen stack nodes (count + 1)
  expanding_skip passed_here = record {
    search = expanding.search;
    passed = λ k before_end now. ⊎_elim
        (λ earlier. expanding.passed k earlier now)
        (λ last. let here : k ≡ count = omega arith in
        passed_here (subst (λ n. IsUnseen seen (get_or nodes n 0)) here now))
        (cases_lt k count);
  }

  pub expanding_end :
      length nodes ≤ count → nodes ≡ get_or graph node [] → (start : ℕ)
      → IsSearch graph start before (node ∷ waiting) → IsSearch graph start seen stack
  expanding_end all are start from =
      search_expanded graph start node seen stack (expanding.search start from)
      (λ j edge. let among = subst (λ (some : List ℕ). Contains some j) (sym are) edge in
      let k = among.0 in
      subst (λ n. ¬ IsUnseen seen n)
      (get_or_from_slice_get nodes k j 0 (slice_get-get_or nodes k j among.1 ∙ ap Some among.2))
      (expanding.passed k (let b : k < length nodes = among.1 in omega arith)))

pub expanding_first :
    (graph : AdjacencyLists) (node : ℕ) (seen : List Bool) (stack nodes : List ℕ)
    → IsExpanding graph node seen stack seen stack nodes 0
expanding_first graph node seen stack nodes =
    record { search = λ start from. from; passed = λ k below now. omega (arith, below) }

-- ---- the beginning

pub search_first :
    (graph : AdjacencyLists) (start : ℕ) (seen : List Bool) (stack : List ℕ) → start < length graph
    → seen ≡ replicate (length graph) false → stack ≡ start ∷ [] → IsSearch graph start seen stack
search_first graph start seen stack below are waits =
    subst (λ s. IsSearch graph start s stack) (sym are)
    (subst (IsSearch graph start (replicate (length graph) false)) (sym waits) (record {
      counted = length-replicate (length graph) false;
      reached = λ i seen_i. absurd (none_seen i seen_i);
      within = λ i among. subst (λ n. n < length graph) (only i among) below;
      from_start = λ i among. inl (sym (only i among));
      pending = λ i. ⊎_elim
          (λ same. inl (subst (Contains (start ∷ [])) (sym same) (Contains-first start [])))
          (λ seen_i. absurd (none_seen i seen_i));
    })) where
      only : (i : ℕ) → Contains (start ∷ []) i → start ≡ i
      only i among = ⊎_elim (λ same. same) (λ none. absurd (Contains-none i none)) (Contains-cases start [] i among)

      none_seen : (i : ℕ) → IsSeen (replicate (length graph) false) i → ⊥
      none_seen i seen_i =
          let below_i = slice_get_within (replicate (length graph) false) i true seen_i in
          let within : i < length graph = omega (arith, length-replicate (length graph) false) in
          false≢true (sym (get_or-replicate (length graph) i false true within)
          ∙ get_or_from_slice_get (replicate (length graph) false) i true true seen_i)

-- ---- waiting nodes

-- If the last node of the stack is popped, then the state of the search stays valid.
pub search_pop :
    (graph : AdjacencyLists) (start node : ℕ) (seen : List Bool) (stack : List ℕ)
    → IsSearch graph start seen (stack ++ node ∷ []) → IsSearch graph start seen (node ∷ stack)
search_pop graph start node seen stack search = record {
  counted = search.counted;
  reached = search.reached;
  within = λ i among. search.within i (back i among);
  from_start = λ i among. search.from_start i (back i among);
  pending = λ i from. ⊎_elim (λ among. inl (forth i among)) (λ done. inr done) (search.pending i from);
} where
  back : (i : ℕ) → Contains (node ∷ stack) i → Contains (stack ++ node ∷ []) i
  back i among = ⊎_elim
      (λ here. subst (Contains (stack ++ node ∷ [])) here
      (Contains-append_right stack (node ∷ []) node (Contains-first node [])))
      (λ later. Contains-append_left stack (node ∷ []) i later)
      (Contains-cases node stack i among)

  forth : (i : ℕ) → Contains (stack ++ node ∷ []) i → Contains (node ∷ stack) i
  forth i among = ⊎_elim (λ old. Contains-later node stack i old)
      (λ last. ⊎_elim (λ here. subst (Contains (node ∷ stack)) here (Contains-first node stack))
      (λ none. absurd (Contains-none i none)) (Contains-cases node [] i last))
      (Contains-append_cases stack (node ∷ []) i among)

-- ---- the end

seen_or_unseen : (seen : List Bool) (i : ℕ) → i < length seen → IsSeen seen i ⊎ IsUnseen seen i
seen_or_unseen seen i below = by_mark (slice_get seen i) refl where
  by_mark : (o : Option Bool) → slice_get seen i ≡ o → IsSeen seen i ⊎ IsUnseen seen i
  by_mark None none = absurd (none-some (get_or seen i true) (sym none ∙ slice_get-get_or seen i true below))
  by_mark (Some true) is_seen = inl is_seen
  by_mark (Some false) unseen = inr unseen

-- If a node has an edge, then the node is a node of the graph.
pub edge_within : (graph : AdjacencyLists) (i j : ℕ) → IsEdge graph i j → i < length graph
edge_within [] i j edge = absurd (Contains-none j edge)
edge_within (nodes ∷ graph) zero j edge = omega arith
edge_within (nodes ∷ graph) (suc i) j edge = let b : i < length graph = edge_within graph i j edge in omega arith

pub path_within : (graph : AdjacencyLists) (i : ℕ) (between : List ℕ) (j : ℕ) → IsPath graph i between j → i < length graph
path_within graph i [] j edge = edge_within graph i j edge
path_within graph i (next ∷ between) j path = edge_within graph i next path.0

search_end :
    (graph : AdjacencyLists) (start : ℕ) (seen : List Bool) → IsSearch graph start seen []
    → start < length graph → IsSeen seen start ↔ IsOnCycle graph start
search_end graph start seen search below =
    (search.reached start, λ cycle. end start cycle.0 (inl refl) cycle.1) where
      search_within : (i : ℕ) → i < length graph → i < length seen
      search_within i within = let n : length seen ≡ length graph = search.counted in omega arith

      expanded : (i : ℕ) → (i ≡ start) ⊎ IsSeen seen i → IsExpanded graph seen i
      expanded i from = ⊎_elim (λ none. absurd (Contains-none i none)) (λ done. done) (search.pending i from)

      end : (i : ℕ) (between : List ℕ) → (i ≡ start) ⊎ IsSeen seen i → IsPath graph i between start
          → IsSeen seen start
      end i [] from edge = ⊎_elim (λ seen_start. seen_start)
          (λ unseen. absurd (expanded i from start edge unseen))
          (seen_or_unseen seen start (search_within start below))
      end i (next ∷ between) from path = ⊎_elim
          (λ seen_next. end next between (inr seen_next) path.1)
          (λ unseen. absurd (expanded i from next path.0 unseen))
          (seen_or_unseen seen next (search_within next (path_within graph next between start path.1)))

-- At the end of the search, the start is marked as seen if and only if the start lies on a cycle.
pub search_answer :
    (graph : AdjacencyLists) (start : ℕ) (seen : List Bool) (stack : List ℕ) (answer : Bool)
    → IsSearch graph start seen stack → stack ≡ [] → start < length graph
    → answer ≡ get_or seen start answer → IsTrue answer ↔ IsOnCycle graph start
search_answer graph start seen stack answer search none below read =
    let ended = search_end graph start seen (subst (IsSearch graph start seen) none search) below in
    let within : start < length seen = let n : length seen ≡ length graph = search.counted in omega arith in
    let at : slice_get seen start ≡ Some answer = slice_get_read seen (length seen) start answer refl within read in (
      λ holds. ended.0 (at ∙ ap Some holds),
      λ cycle. same_Some answer true (sym at ∙ ended.1 cycle),
    )
