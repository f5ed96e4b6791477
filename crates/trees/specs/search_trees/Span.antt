-- The least and the greatest elements at and below nodes.
use Rattle.std.specs.Prelude.{ℕ, ◌<◌, ◌≡◌, ◌⊎◌, ◌↔◌, IsTrue, List, length, Some, slice_get}
use Rattle.base_data.specs.declared.model.value.Val.{Val}
use Rattle.base_data.specs.declared.model.value.Val.TheVariants as vals
use Rattle.base_data.specs.declared.model.value.Obj.{Obj}
use Rattle.trees.specs.declared.search_trees.element_span.ElementSpan.{ElementSpan}
use Rattle.trees.specs.declared.search_trees.element_span.SettledNode.{SettledNode}
use Rattle.trees.specs.search_trees.NodeParts.{node_at, IsAtOrBelow}
use Rattle.trees.specs.search_trees.TreeFault.{IsElementLess, IsDisordered}

-- ---- the least and the greatest of two

pub record IsLesser (graph : List Obj) (o p lesser : ℕ) : Type 0 where
  pub one : (lesser ≡ o) ⊎ (lesser ≡ p)
  pub first : ¬ IsElementLess graph o lesser
  pub second : ¬ IsElementLess graph p lesser

pub record IsGreater (graph : List Obj) (o p greater : ℕ) : Type 0 where
  pub one : (greater ≡ o) ⊎ (greater ≡ p)
  pub first : ¬ IsElementLess graph greater o
  pub second : ¬ IsElementLess graph greater p

-- The span consists of two objects of the graph. The greatest element is not less than the least
-- element.
pub record IsSpread (graph : List Obj) (span : ElementSpan) : Type 0 where
  pub least_inside : span.least < length graph
  pub greatest_inside : span.greatest < length graph
  pub rising : ¬ IsElementLess graph span.greatest span.least

-- ---- the least and the greatest of many nodes

-- Among all nodes with the property, the nodes of the span have the least and the greatest element.
pub record IsSpan (graph : List Obj) (Has : ℕ → Type 0) (span : ElementSpan) : Type 0 where
  pub least_inside : span.least < length graph
  pub greatest_inside : span.greatest < length graph
  pub least_there : Has span.least
  pub greatest_there : Has span.greatest
  pub least : (p : ℕ) → Has p → ¬ IsElementLess graph p span.least
  pub greatest : (p : ℕ) → Has p → ¬ IsElementLess graph span.greatest p

-- The node `p` is the node `o`, or a node in the left subtree of `o`.
abbrev pub IsOnLeftOrAt : List Obj → ℕ → ℕ → Type 0
IsOnLeftOrAt graph o p = IsAtOrBelow graph (node_at graph o).left p ⊎ (o ≡ p)

-- Some element in the left subtree of node `o` is not less than the element of `o`.
abbrev pub IsLeftOver : List Obj → ℕ → Type 0
IsLeftOver graph o =
    (p : ℕ) × IsAtOrBelow graph (node_at graph o).left p × (¬ IsElementLess graph p o)

-- Some element in the right subtree of node `o` is not greater than the element of `o` or of a node
-- in the left subtree of `o`.
abbrev pub IsRightUnder : List Obj → ℕ → Type 0
IsRightUnder graph o =
    (p : ℕ) × (q : ℕ) × IsOnLeftOrAt graph o p
    × IsAtOrBelow graph (node_at graph o).right q × (¬ IsElementLess graph p q)

-- ---- settled nodes

-- The settled node has the span of all nodes at and below the node, and is marked if the node is
-- out of order.
pub record IsSettledAs (graph : List Obj) (o : ℕ) (settled : SettledNode) : Type 0 where
  pub span : IsSpan graph (IsAtOrBelow graph (vals.Ref o)) settled.span
  pub disordered : IsTrue settled.disordered ↔ IsDisordered graph o

abbrev pub IsSettled : List Obj → List SettledNode → ℕ → Type 0
IsSettled graph all o =
    (settled : SettledNode) × (slice_get all o ≡ Some settled) × IsSettledAs graph o settled

-- If the value is a reference, then its object is settled.
abbrev pub IsPartSettled : List Obj → List SettledNode → Val → Type 0
IsPartSettled graph all (vals.Int z) = Unit {0}
IsPartSettled graph all (vals.Atom tag) = Unit {0}
IsPartSettled graph all (vals.Ref o) = IsSettled graph all o

-- The node is an object of the graph, and the left and the right part of the node are settled.
pub record IsReady (graph : List Obj) (all : List SettledNode) (o : ℕ) : Type 0 where
  pub inside : o < length graph
  pub left : IsPartSettled graph all (node_at graph o).left
  pub right : IsPartSettled graph all (node_at graph o).right

-- The node is marked as out of order.
abbrev pub IsMarked : List SettledNode → ℕ → Type 0
IsMarked all o =
    (settled : SettledNode) × (slice_get all o ≡ Some settled) × IsTrue settled.disordered
