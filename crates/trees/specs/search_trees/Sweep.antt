-- A sweep over nodes from the last to the first. The state of the sweep is the settled nodes, and
-- the first fault found up to now.
use Rattle.std.specs.Prelude.{ℕ, ◌≡◌, ◌≢◌, ◌<◌, ◌≤◌, ◌-◌, ◌^◌, nat_lt, if◌then◌else◌, List, Option}
use Rattle.std.specs.Prelude.{Some, None, slice_get}
use Rattle.base_data.specs.declared.model.value.Obj.{Obj}
use Rattle.trees.specs.declared.search_trees.judging.NodesVerdict.{NodesVerdict}
use Rattle.trees.specs.declared.search_trees.judging.NodesVerdict.TheVariants.{Sound, Faulty}
use Rattle.trees.specs.declared.search_trees.tree_node.TreeKind.{TreeKind}
use Rattle.trees.specs.declared.search_trees.tree_node.TreeKind.TheVariants as kinds
use Rattle.trees.specs.declared.search_trees.element_span.SettledNode.{SettledNode}
use Rattle.trees.specs.search_trees.NodeJudgement.{rank_of, IsKnownBefore}
use Rattle.trees.specs.search_trees.Span.{IsSettledAs}
use Rattle.trees.specs.search_trees.TreeFault.{IsMiscounted, IsUnbalanced, IsDisordered}

-- ---- settled nodes

-- If the least object of a node's span is not 2^64 - 1, then the node counts as settled, and its
-- entry is correct.
abbrev pub AreKnown : List Obj → List SettledNode → Type 0
AreKnown graph all =
    (o : ℕ) (settled : SettledNode) → slice_get all o ≡ Some settled
    → settled.span.least ≢ 2 ^ 64 - 1 → IsSettledAs graph o settled

-- ---- the faults of one node

abbrev pub HasKind : List Obj → TreeKind → ℕ → Type 0
HasKind graph kinds.Height o = IsMiscounted graph o
HasKind graph kinds.Balance o = IsUnbalanced graph o
HasKind graph kinds.Order o = IsDisordered graph o

-- The fault of lowest rank of one node. `None` means that the node has no fault.
abbrev pub IsMostSevere : List Obj → ℕ → Option TreeKind → Type 0
IsMostSevere graph o None = (kind : TreeKind) → ¬ HasKind graph kind o
IsMostSevere graph o (Some kind) =
    HasKind graph kind o
    × ((other : TreeKind) → HasKind graph other o → ¬ (rank_of other < rank_of kind))

-- ---- the first fault so far

abbrev pub replaced : NodesVerdict → TreeKind → ℕ → NodesVerdict
replaced Sound kind i = Faulty kind i
replaced (Faulty other j) kind i =
    if nat_lt (rank_of other) (rank_of kind) then Faulty other j else Faulty kind i

-- The first fault of the nodes from index `i` on, given the first fault of the nodes after `i`.
abbrev pub more_severe : NodesVerdict → Option TreeKind → ℕ → NodesVerdict
more_severe most_severe None i = most_severe
more_severe most_severe (Some kind) i = replaced most_severe kind i

-- The verdict states the first fault of the lowest rank among the nodes from index `from` on.
-- `Sound` means that none of these nodes has a fault.
abbrev pub IsMostSevereFrom : List Obj → List ℕ → ℕ → NodesVerdict → Type 0
IsMostSevereFrom graph nodes from Sound =
    (j o : ℕ) → from ≤ j → slice_get nodes j ≡ Some o → (kind : TreeKind) → ¬ HasKind graph kind o
IsMostSevereFrom graph nodes from (Faulty kind i) =
    ((o : ℕ) × (slice_get nodes i ≡ Some o) × HasKind graph kind o)
    × ((other : TreeKind) (j o : ℕ) → from ≤ j → slice_get nodes j ≡ Some o
    → HasKind graph other o → ¬ IsKnownBefore other j kind i)
