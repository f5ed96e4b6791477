-- A search along the edges from one node.
use Rattle.std.specs.Prelude.{ℕ, ◌<◌, ◌≡◌, ◌⊎◌, Bool, true, false, List, length, Some, slice_get}
use Rattle.std.specs.Prelude.{Contains, sum_by, if◌then◌else◌}
use Rattle.types_resolve.specs.scope.StepGraph.{AdjacencyLists, IsEdge, Reaches}

abbrev pub IsSeen : List Bool → ℕ → Type 0
IsSeen seen i = slice_get seen i ≡ Some true

abbrev pub IsUnseen : List Bool → ℕ → Type 0
IsUnseen seen i = slice_get seen i ≡ Some false

-- The number of nodes that the search has not seen.
abbrev pub unseen_count : List Bool → ℕ
unseen_count seen = sum_by (λ s. if s then 0 else 1) seen

-- The search has seen all successors of node `i`.
abbrev pub IsExpanded : AdjacencyLists → List Bool → ℕ → Type 0
IsExpanded graph seen i = (j : ℕ) → IsEdge graph i j → ¬ IsUnseen seen j

-- The state of a search. Edges lead from the start to each seen node. The start and each seen node
-- are waiting or expanded.
pub record IsSearch (graph : AdjacencyLists) (start : ℕ) (seen : List Bool)
    (waiting : List ℕ) : Type 0 where
  pub counted : length seen ≡ length graph
  pub reached : (i : ℕ) → IsSeen seen i → Reaches graph start i
  pub within : (i : ℕ) → Contains waiting i → i < length graph
  pub from_start : (i : ℕ) → Contains waiting i → (i ≡ start) ⊎ Reaches graph start i
  pub pending :
      (i : ℕ) → (i ≡ start) ⊎ IsSeen seen i → Contains waiting i ⊎ IsExpanded graph seen i
