-- Nodes of a graph.
use Rattle.std.specs.Prelude.{ℕ}
use Rattle.base_data.specs.model.Graph.{IsValue, IsInteger}
use Rattle.trees.specs.declared.search_trees.tree_node.TreeNode.{TreeNode}

-- The parts of a node are values of a graph with `n` objects, and the height fits 63 bits.
pub record IsValid (n : ℕ) (node : TreeNode) : Type 0 where
  pub left : IsValue n node.left
  pub element : IsValue n node.element
  pub right : IsValue n node.right
  pub height : IsInteger node.height
