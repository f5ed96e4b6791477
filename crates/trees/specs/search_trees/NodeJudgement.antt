-- The result for a list of nodes: the first fault of the lowest rank among the nodes, or no fault.
use Rattle.std.specs.Prelude.{ℕ, ◌<◌, ◌≡◌, ◌⊎◌, List, length, Option, Some, None, slice_get, All}
use Rattle.std.specs.Prelude.{Contains, IsSomeAnd}
use Rattle.base_data.specs.declared.model.value.Val.{Val}
use Rattle.base_data.specs.declared.model.value.Val.TheVariants as vals
use Rattle.base_data.specs.declared.model.value.Obj.{Obj}
use Rattle.trees.specs.declared.search_trees.tree_node.TreeKind.{TreeKind}
use Rattle.trees.specs.declared.search_trees.tree_node.TreeKind.TheVariants as kinds
use Rattle.trees.specs.declared.search_trees.judging.NodesVerdict.{NodesVerdict}
use Rattle.trees.specs.declared.search_trees.judging.NodesVerdict.TheVariants.{Sound, Faulty}
use Rattle.trees.specs.search_trees.NodeParts.{node_at}
use Rattle.trees.specs.search_trees.TreeFault.{IsMiscounted, IsUnbalanced, IsDisordered}

-- ---- nodes

-- If the value is a reference, then its object is among the nodes.
abbrev pub IsAmong : List ℕ → Val → Type 0
IsAmong nodes (vals.Int z) = Unit {0}
IsAmong nodes (vals.Atom tag) = Unit {0}
IsAmong nodes (vals.Ref o) = Contains nodes o

-- Each node is an object of the graph, and the parts of each node are among the nodes.
pub record AreClosed (graph : List Obj) (nodes : List ℕ) : Type 0 where
  pub inside : All (λ o. o < length graph) nodes
  pub left : (o : ℕ) → Contains nodes o → IsAmong nodes (node_at graph o).left
  pub right : (o : ℕ) → Contains nodes o → IsAmong nodes (node_at graph o).right

-- ---- faults of nodes

-- The node at index `i` has the property `Has`.
abbrev pub HasAt : (ℕ → Type 0) → List ℕ → ℕ → Type 0
HasAt Has nodes i = IsSomeAnd (slice_get nodes i) Has

-- The node at index `i` has a fault of the given kind. A fault of order counts only if no node has
-- a wrong height.
abbrev pub IsFaultAt : List Obj → List ℕ → TreeKind → ℕ → Type 0
IsFaultAt graph nodes kinds.Height i = HasAt (IsMiscounted graph) nodes i
IsFaultAt graph nodes kinds.Balance i = HasAt (IsUnbalanced graph) nodes i
IsFaultAt graph nodes kinds.Order i =
    HasAt (IsDisordered graph) nodes i × ((j : ℕ) → ¬ HasAt (IsMiscounted graph) nodes j)

-- ---- order of faults

abbrev pub rank_of : TreeKind → ℕ
rank_of kinds.Height = 0
rank_of kinds.Balance = 1
rank_of kinds.Order = 2

-- Faults of height come first, faults of balance come second, and faults of order come last. Among
-- faults of one kind, the fault of the earlier node comes first.
abbrev pub IsKnownBefore : TreeKind → ℕ → TreeKind → ℕ → Type 0
IsKnownBefore kind i other j = (rank_of kind < rank_of other) ⊎ ((kind ≡ other) × (i < j))

-- If the verdict is `Sound`, no node has a fault. If the verdict is `Faulty`, the stated fault
-- exists and no fault comes before the stated fault.
abbrev pub IsJudgement : List Obj → List ℕ → NodesVerdict → Type 0
IsJudgement graph nodes Sound = (kind : TreeKind) (i : ℕ) → ¬ IsFaultAt graph nodes kind i
IsJudgement graph nodes (Faulty kind i) =
    IsFaultAt graph nodes kind i
    × ((other : TreeKind) (j : ℕ) → IsFaultAt graph nodes other j
    → ¬ IsKnownBefore other j kind i)

-- The index of the first node with the property `Has`. `None` means that no node has the property.
abbrev pub IsFirst : (ℕ → Type 0) → List ℕ → Option ℕ → Type 0
IsFirst Has nodes None = (j : ℕ) → ¬ HasAt Has nodes j
IsFirst Has nodes (Some i) = HasAt Has nodes i × ((j : ℕ) → j < i → ¬ HasAt Has nodes j)
