-- Ranks of nodes, which decrease along each edge.
use Rattle.std.specs.Prelude.{ℕ, ◌<◌, ◌≡◌, Bool, true, false, List, length, Option, Some, slice_get}
use Rattle.types_resolve.specs.declared.scope.ranks.VisitState.{VisitState}
use Rattle.types_resolve.specs.declared.scope.ranks.VisitState.TheVariants as marks
use Rattle.types_resolve.specs.scope.StepGraph.{AdjacencyLists, IsEdge}

-- Node `i` has the rank `rank`.
abbrev pub HasRank : List VisitState → ℕ → ℕ → Type 0
HasRank all i rank = slice_get all i ≡ Some (marks.Ranked rank)

-- Node `i` is neither opened nor ranked.
abbrev pub IsNew : List VisitState → ℕ → Type 0
IsNew all i = slice_get all i ≡ Some marks.New

abbrev pub is_rank : Option VisitState → Bool
is_rank (Some (marks.Ranked rank)) = true
is_rank other = false

-- Tests whether node `i` has a rank.
abbrev pub is_ranked : List VisitState → ℕ → Bool
is_ranked all i = is_rank (slice_get all i)

-- Each edge of a node with a rank leads to a node with a lower rank.
pub record AreRanks (graph : AdjacencyLists) (all : List VisitState) : Type 0 where
  pub counted : length all ≡ length graph
  pub fall :
      (i rank j : ℕ) → HasRank all i rank → IsEdge graph i j
      → (lower : ℕ) × HasRank all j lower × (lower < rank)

-- All ranks are less than `limit`.
abbrev pub RanksBelow : List VisitState → ℕ → Type 0
RanksBelow all limit = (i rank : ℕ) → HasRank all i rank → rank < limit
