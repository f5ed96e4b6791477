-- The root value of a tree.
use Rattle.std.proofs.Common.{length, arith}
use Rattle.base_data.specs.model.Graph.{IsValue}
use Rattle.marshal_spec.specs.format.Token.{integer, atom, shared, block, leaf}
use Rattle.marshal_spec.specs.format.Tree.{Tree, node, IsTree, ReferBack, root, objects_of}

-- The root value of a tree is a value over the tree's objects.
pub root_is_value :
    (tree : Tree) → IsTree tree → ReferBack tree 0
    → IsValue (length (objects_of tree 0)) (root tree 0)
root_is_value (node (integer z) forest) is_tree back = is_tree.0
root_is_value (node (atom tag) forest) is_tree back = is_tree.0
root_is_value (node (shared offset) forest) is_tree back =
    absurd (omega (arith, back.0.0, back.0.1))
root_is_value (node (block tag size) forest) is_tree back = omega arith
root_is_value (node (leaf object) forest) is_tree back = omega arith
