-- The faults of the search trees in a value: wrong heights, a wrong balance and a wrong order of
-- nodes (`set.ml` and `map.ml` of OCaml's standard library).
use Rattle.std.specs.Prelude.{ℕ, ◌≡◌, ◌⊎◌, IsTrue, List, Some, ℤ, pos, ◌+ℤ◌, ◌<ℤ◌}
use Rattle.std.specs.Int.{int_max}
use Rattle.base_data.specs.declared.model.value.Val.{Val}
use Rattle.base_data.specs.declared.model.value.Val.TheVariants as vals
use Rattle.base_data.specs.declared.model.value.Obj.{Obj}
use Rattle.types_spec.specs.declared.types.names.Names.{Names}
use Rattle.types_spec.specs.declared.types.shape.ShapeOf.{ShapeOf}
use Rattle.types_spec.specs.types.Fault.{value_at}
use Rattle.types_spec.specs.types.Fitting.{shaped}
use Rattle.trees.specs.declared.search_trees.tree_node.TreeKind.{TreeKind}
use Rattle.trees.specs.declared.search_trees.tree_node.TreeKind.TheVariants as kinds
use Rattle.trees.specs.search_trees.TreeType.{IsTreeType}
use Rattle.trees.specs.search_trees.NodeParts.{node_at, height_of, is_less, IsAtOrBelow}

-- ---- one node

abbrev pub left_height : List Obj → ℕ → ℤ
left_height graph o = height_of graph (node_at graph o).left

abbrev pub right_height : List Obj → ℕ → ℤ
right_height graph o = height_of graph (node_at graph o).right

-- The stored height of node `o` is not one more than the height of the higher subtree of `o`.
abbrev pub IsMiscounted : List Obj → ℕ → Type 0
IsMiscounted graph o =
    ¬ ((node_at graph o).height ≡ pos 1 +ℤ int_max (left_height graph o) (right_height graph o))

-- The heights of the two subtrees of node `o` differ by more than two.
abbrev pub IsUnbalanced : List Obj → ℕ → Type 0
IsUnbalanced graph o =
    ((left_height graph o +ℤ pos 2) <ℤ right_height graph o)
    ⊎ ((right_height graph o +ℤ pos 2) <ℤ left_height graph o)

-- The element of node `o` is less than the element of node `p`.
abbrev pub IsElementLess : List Obj → ℕ → ℕ → Type 0
IsElementLess graph o p = IsTrue (is_less graph (node_at graph o).element (node_at graph p).element)

-- An element in the left subtree of node `o` is not less than the element of `o`, or an element in
-- the right subtree is not greater.
abbrev pub IsDisordered : List Obj → ℕ → Type 0
IsDisordered graph o =
    ((p : ℕ) × IsAtOrBelow graph (node_at graph o).left p × (¬ IsElementLess graph p o))
    ⊎ ((p : ℕ) × IsAtOrBelow graph (node_at graph o).right p × (¬ IsElementLess graph o p))

module _ {T : Type 0} (shape : T → ShapeOf T) (names : T → Names) (Equal : T → T → Type 0)
    (graph : List Obj) (root : Val) (t : T) where
  -- ---- all nodes

  -- The path leads to the object `o` at the type `u`, which is the type of a tree.
  pub record IsNode (path : List ℕ) (o : ℕ) (u : T) : Type 0 where
    pub leads : value_at (shaped shape Equal) graph root t path ≡ Some (vals.Ref o, u)
    pub tree : IsTreeType shape names Equal u

  abbrev pub IsNodeWith : (List Obj → ℕ → Type 0) → List ℕ → Type 0
  IsNodeWith Has path = (o : ℕ) × (u : T) × IsNode path o u × Has graph o

  -- The node at a path has a fault of the given kind. A fault of order counts only if no node has a
  -- wrong height.
  abbrev pub IsTreeFault : TreeKind → List ℕ → Type 0
  IsTreeFault kinds.Height path = IsNodeWith IsMiscounted path
  IsTreeFault kinds.Balance path = IsNodeWith IsUnbalanced path
  IsTreeFault kinds.Order path =
      IsNodeWith IsDisordered path × ((other : List ℕ) → ¬ IsNodeWith IsMiscounted other)

  -- No node in the value has a fault.
  abbrev pub HasNoTreeFault : Type 0
  HasNoTreeFault = (kind : TreeKind) (path : List ℕ) → ¬ IsTreeFault kind path
