-- Search trees as in OCaml's standard library. A search tree is finite, its elements increase from
-- left to right, its nodes store their heights, and the subtrees of each node have nearly the same
-- height.
use Rattle.std.specs.Prelude.{ℕ, suc, ◌≡◌, ◌≤◌, ◌+◌, max, IsTrue, List, [], ◌∷◌, ◌++◌, Contains}
use Rattle.std.specs.Prelude.{pos}
use Rattle.base_data.specs.declared.model.value.Val.{Val}
use Rattle.base_data.specs.declared.model.value.Val.TheVariants as vals
use Rattle.base_data.specs.declared.model.value.Obj.{Obj}
use Rattle.trees.specs.search_trees.NodeParts.{empty_value, node_at, is_less}

-- The empty tree, or an object between two trees.
pub data SearchTree : Type 0 where
  empty : SearchTree
  node : (left : SearchTree) → (object : ℕ) → (right : SearchTree) → SearchTree

-- The value represents the tree: `Empty` represents the empty tree, and a node represents an object
-- between two trees.
abbrev pub IsTree : List Obj → Val → SearchTree → Type 0
IsTree graph v empty = v ≡ empty_value
IsTree graph v (node left o right) =
    (v ≡ vals.Ref o) × IsTree graph (node_at graph o).left left
    × IsTree graph (node_at graph o).right right

-- The elements of a tree from left to right.
abbrev pub elements : List Obj → SearchTree → List Val
elements graph empty = []
elements graph (node left o right) =
    elements graph left ++ (node_at graph o).element ∷ elements graph right

-- Each element of the list is less than all later elements.
abbrev pub AreIncreasing : List Obj → List Val → Type 0
AreIncreasing graph [] = Unit {0}
AreIncreasing graph (v ∷ more) =
    ((w : Val) → Contains more w → IsTrue (is_less graph v w)) × AreIncreasing graph more

-- The number of nodes on the longest path from the root of a tree downwards.
abbrev pub height : SearchTree → ℕ
height empty = 0
height (node left o right) = suc (max (height left) (height right))

-- Each node of the tree stores its height.
abbrev pub StateHeights : List Obj → SearchTree → Type 0
StateHeights graph empty = Unit {0}
StateHeights graph (node left o right) =
    ((node_at graph o).height ≡ pos (height (node left o right)))
    × StateHeights graph left × StateHeights graph right

-- The subtrees of each node differ in height by at most two.
abbrev pub IsBalanced : SearchTree → Type 0
IsBalanced empty = Unit {0}
IsBalanced (node left o right) =
    (height left ≤ height right + 2) × (height right ≤ height left + 2)
    × IsBalanced left × IsBalanced right

-- The value represents a finite balanced tree with increasing elements, whose nodes store their
-- heights.
pub record IsSearchTree (graph : List Obj) (v : Val) : Type 0 where
  pub tree : SearchTree
  pub is : IsTree graph v tree
  pub increasing : AreIncreasing graph (elements graph tree)
  pub stated : StateHeights graph tree
  pub balanced : IsBalanced tree
