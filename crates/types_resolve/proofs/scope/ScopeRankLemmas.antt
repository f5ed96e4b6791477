-- A node with a rank lies on no cycle.
use Rattle.std.proofs.Common.{ℕ, ◌<◌, ◌+◌, ◌≡◌, ◌⊎◌, ⊎_elim, inl, inr, Option, Some, None, List, [], ◌∷◌, true, false}
use Rattle.std.proofs.Common.{length, refl, sym, ap, subst, arith, ◌∙◌}
use Rattle.std.specs.Prelude.{slice_get, slice_set, Contains}
use Rattle.std.specs.List.{list_all}
use Rattle.std.proofs.Math.ListN.{length-set}
use Rattle.std.proofs.lemmas.Bool.{false≢true}
use Rattle.std.proofs.lemmas.Option.{same_Some, slice_get_within}
use Rattle.std.proofs.lemmas.List.Elements.{All-contains}
use Rattle.std.proofs.lemmas.List.Sums.{AllPass-from_list_all}
use Rattle.base_data.proofs.model.Options.{same_or_not}
use Rattle.types_resolve.specs.declared.scope.ranks.VisitState.{VisitState}
use Rattle.types_resolve.specs.declared.scope.ranks.VisitState.TheVariants as marks
use Rattle.types_resolve.specs.scope.StepGraph.{AdjacencyLists, IsEdge, IsPath, IsOnCycle}
use Rattle.types_resolve.specs.scope.Ranks.{HasRank, AreRanks, RanksBelow, is_rank, is_ranked}
use Rattle.types_resolve.proofs.scope.ScopeGraphLemmas.{slice_get-set_same, slice_get-set_other}

-- ---- consequences of ranks

-- If a node with a rank has a path to another node, then the other node has a lower rank.
falls :
    (graph : AdjacencyLists) (all : List VisitState) → AreRanks graph all → (i rank : ℕ) (between : List ℕ) (j : ℕ)
    → HasRank all i rank → IsPath graph i between j
    → (lower : ℕ) × HasRank all j lower × (lower < rank)
falls graph all ranks i rank [] j has edge = ranks.fall i rank j has edge
falls graph all ranks i rank (next ∷ between) j has path =
    let first = ranks.fall i rank next has path.0 in
    let last = falls graph all ranks next first.0 between j first.1 path.1 in
    let down : first.0 < rank = first.2 in
    let further : last.0 < first.0 = last.2 in
    (last.0, last.1, omega arith)

same_rank : (r s : ℕ) → marks.Ranked r ≡ marks.Ranked s → r ≡ s
same_rank r s e = cc

pub ranked-off_cycle :
    (graph : AdjacencyLists) (all : List VisitState) → AreRanks graph all → (i rank : ℕ) → HasRank all i rank
    → ¬ IsOnCycle graph i
ranked-off_cycle graph all ranks i rank has (between, path) =
    let last = falls graph all ranks i rank between i has path in
    let same : last.0 ≡ rank = same_rank last.0 rank
    (same_Some (marks.Ranked last.0) (marks.Ranked rank) (sym last.1 ∙ has)) in
    let less : last.0 < rank = last.2 in
    omega arith

-- ---- a mark that changes

rank_in : (o : Option VisitState) → is_rank o ≡ true → (rank : ℕ) × (o ≡ Some (marks.Ranked rank))
rank_in None has_rank = absurd (false≢true has_rank)
rank_in (Some marks.New) has_rank = absurd (false≢true has_rank)
rank_in (Some marks.Opened) has_rank = absurd (false≢true has_rank)
rank_in (Some (marks.Ranked rank)) has_rank = (rank, refl)

pub rank_of : (all : List VisitState) (i : ℕ) → is_ranked all i ≡ true → (rank : ℕ) × HasRank all i rank
rank_of all i has_rank = rank_in (slice_get all i) has_rank

unranked : (all : List VisitState) (i rank : ℕ) → is_ranked all i ≡ false → ¬ HasRank all i rank
unranked all i rank has_none has = false≢true (sym has_none ∙ ap is_rank has)

-- If the state of a node without a rank is replaced, then each node with a rank keeps its rank.
module _ (all : List VisitState) (i : ℕ) (mark : VisitState) (unranked_before : is_ranked all i ≡ false) where
  still_ranked : (j rank : ℕ) → HasRank all j rank → HasRank (slice_set all i mark) j rank
  still_ranked j rank has =
      slice_get-set_other all i j mark
      (λ same. unranked all i rank unranked_before (subst (λ k. HasRank all k rank) same has)) ∙ has

  ranked_before :
      (j rank : ℕ) → HasRank (slice_set all i mark) j rank
      → HasRank all j rank ⊎ ((j ≡ i) × (mark ≡ marks.Ranked rank))
  ranked_before j rank has = by_position (same_or_not j i) where
    by_position :
        (j ≡ i) ⊎ (¬ (j ≡ i)) → HasRank all j rank ⊎ ((j ≡ i) × (mark ≡ marks.Ranked rank))
    by_position (inl same) = inr (
      same,
      (let at : slice_get (slice_set all i mark) i ≡ Some (marks.Ranked rank) =
          subst (λ k. HasRank (slice_set all i mark) k rank) same has in
          same_Some mark (marks.Ranked rank) (sym (slice_get-set_same all i mark (within at)) ∙ at)),
    ) where
      within : slice_get (slice_set all i mark) i ≡ Some (marks.Ranked rank) → i < length all
      within at = let b : i < length (slice_set all i mark) =
          slice_get_within (slice_set all i mark) i (marks.Ranked rank) at in
          omega (arith, length-set all i mark)
    by_position (inr apart) = inl (sym (slice_get-set_other all i j mark apart) ∙ has)

  -- If a node without a rank is opened, then ranks decrease along each edge.
  pub ranks_opened :
      (graph : AdjacencyLists) → AreRanks graph all → (mark ≡ marks.Opened)
      → AreRanks graph (slice_set all i mark)
  ranks_opened graph ranks is = record {
    counted = length-set all i mark ∙ ranks.counted;
    fall = λ j rank k has edge. ⊎_elim
        (λ old. let next = ranks.fall j rank k old edge in
        (next.0, still_ranked k next.0 next.1, next.2))
        (λ here. absurd (no_rank (sym is ∙ here.1)))
        (ranked_before j rank has);
  } where
    no_rank : {rank : ℕ} → marks.Opened ≡ marks.Ranked rank → ⊥
    no_rank e = cc

  pub below_opened :
      (limit : ℕ) → RanksBelow all limit → (mark ≡ marks.Opened)
      → RanksBelow (slice_set all i mark) (limit + 1)
  below_opened limit below is = λ j rank has. ⊎_elim
      (λ old. let b : rank < limit = below j rank old in omega arith)
      (λ here. let e : marks.Opened ≡ marks.Ranked rank = sym is ∙ here.1 in absurd (cc))
      (ranked_before j rank has)

  -- If a node gets a rank above the ranks of its successors, then ranks decrease along each edge.
  pub ranks_more :
      (graph : AdjacencyLists) (rank : ℕ) → AreRanks graph all → RanksBelow all rank
      → mark ≡ marks.Ranked rank
      → ((j : ℕ) → IsEdge graph i j → is_ranked all j ≡ true)
      → AreRanks graph (slice_set all i mark)
  ranks_more graph rank ranks below is edges = record {
    counted = length-set all i mark ∙ ranks.counted;
    fall = λ j given k has edge. ⊎_elim
        (λ old. let next = ranks.fall j given k old edge in
        (next.0, still_ranked k next.0 next.1, next.2))
        (λ here. let edge_here : IsEdge graph i k = subst (λ n. IsEdge graph n k) here.0 edge in
        let next = rank_of all k (edges k edge_here) in
        let same : rank ≡ given = same_rank rank given (sym is ∙ here.1) in
        let less : next.0 < rank = below k next.0 next.1 in
        (next.0, still_ranked k next.0 next.1, omega arith))
        (ranked_before j given has);
  }

  pub below_more_ranks :
      (rank : ℕ) → RanksBelow all rank → mark ≡ marks.Ranked rank
      → RanksBelow (slice_set all i mark) (rank + 1)
  below_more_ranks rank below is = λ j given has. ⊎_elim
      (λ old. let b : given < rank = below j given old in omega arith)
      (λ here. let same : rank ≡ given = same_rank rank given (sym is ∙ here.1) in omega arith)
      (ranked_before j given has)

pub all_ranked :
    (all : List VisitState) (nodes : List ℕ) → list_all (λ i. is_ranked all i) nodes ≡ true → (j : ℕ)
    → Contains nodes j → is_ranked all j ≡ true
all_ranked all nodes has_rank j among = All-contains (λ i. is_ranked all i ≡ true) nodes j
    (AllPass-from_list_all (λ i. is_ranked all i) nodes has_rank) among
