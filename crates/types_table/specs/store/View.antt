-- The types of stored nodes, whose names are numbers.
use Rattle.std.specs.Prelude.{ℕ, ◌<◌, ◌≡◌, List, [], map, length, slice_get, slice_index_or, Some}
use Rattle.types_spec.specs.types.Ty.{Ty}
use Rattle.types_spec.specs.declared.types.ty.TypeTreeNode.{TypeTreeNode as Written}
use Rattle.types_spec.specs.declared.types.ty.TypeTreeNode.TheVariants as written
use Rattle.types_spec.specs.types.TypeNodes.{types_of, AreOrdered}
use Rattle.types_table.specs.declared.store.stored_node.StoredNode.{StoredNode}
use Rattle.types_table.specs.declared.store.stored_node.StoredNode.TheVariants as nodes
use Rattle.types_table.specs.store.Held.{AreDistinct}

abbrev pub name_at : List (List ℕ) → ℕ → List ℕ
name_at names n = slice_index_or names n []

-- The node with its name instead of the name's number.
abbrev pub encoded : List (List ℕ) → StoredNode → Written
encoded names (nodes.Variable n) = written.Variable (name_at names n)
encoded names (nodes.Named n) = written.Named (name_at names n)
encoded names nodes.Tuple = written.Tuple
encoded names nodes.Bracket = written.Bracket
encoded names (nodes.Part whole added) = written.Part whole added
encoded names (nodes.Tag whole n) = written.Tag whole (name_at names n)
encoded names (nodes.TagOf whole n argument) = written.TagOf whole (name_at names n) argument
encoded names (nodes.Including whole included) = written.Including whole included

-- The types of the nodes of a store, in order.
abbrev pub types_in : List (List ℕ) → List StoredNode → List Ty
types_in names all = types_of (map (encoded names) all)

-- If the node has a name, the name's number is less than `n`.
abbrev pub IsNamedBelow : ℕ → StoredNode → Type 0
IsNamedBelow n (nodes.Variable m) = m < n
IsNamedBelow n (nodes.Named m) = m < n
IsNamedBelow n (nodes.Tag whole m) = m < n
IsNamedBelow n (nodes.TagOf whole m argument) = m < n
IsNamedBelow n node = Unit {0}

-- The invariant of a store. A node refers only to earlier nodes and to known names. No name and no
-- node occurs twice.
pub record IsStore (names : List (List ℕ)) (all : List StoredNode) : Type 0 where
  pub ordered : AreOrdered (map (encoded names) all)
  pub named : (i : ℕ) (node : StoredNode) → slice_get all i ≡ Some node
      → IsNamedBelow (length names) node
  pub own_names : AreDistinct names
  pub own_nodes : AreDistinct all
