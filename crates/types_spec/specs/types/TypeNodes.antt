-- The tree that a list of nodes denotes.
use Rattle.std.specs.Prelude.{ℕ, ◌<◌, ◌-◌, ◌≡◌, List, [], ◌∷◌, ◌++◌, length, fold, slice_get, Some}
use Rattle.std.specs.Prelude.{slice_index_or}
use Rattle.types_spec.specs.types.Ty.{Ty, variable, named, tuple, bracket, part, tag, tag_of}
use Rattle.types_spec.specs.types.Ty.{including}
use Rattle.types_spec.specs.declared.types.ty.TypeTreeNode.{TypeTreeNode}
use Rattle.types_spec.specs.declared.types.ty.TypeTreeNode.TheVariants as nodes

-- The type with index `i` in the list.
abbrev pub type_at : List Ty → ℕ → Ty
type_at types i = slice_index_or types i tuple

-- The type that a node denotes, given the types of the earlier nodes.
abbrev pub type_of_node : List Ty → TypeTreeNode → Ty
type_of_node types (nodes.Variable name) = variable name
type_of_node types (nodes.Named name) = named name
type_of_node types nodes.Tuple = tuple
type_of_node types nodes.Bracket = bracket
type_of_node types (nodes.Part whole added) = part (type_at types whole) (type_at types added)
type_of_node types (nodes.Tag whole name) = tag (type_at types whole) name
type_of_node types (nodes.TagOf whole name argument) =
    tag_of (type_at types whole) name (type_at types argument)
type_of_node types (nodes.Including whole included) =
    including (type_at types whole) (type_at types included)

-- The type that each node of the list denotes.
unfoldable pub types_of : List TypeTreeNode → List Ty
types_of all = fold (λ types node. types ++ type_of_node types node ∷ []) [] all

-- The type that the last node of the list denotes.
unfoldable pub type_of : List TypeTreeNode → Ty
type_of all = type_at (types_of all) (length all - 1)

abbrev pub IsBelow : ℕ → TypeTreeNode → Type 0
IsBelow n (nodes.Part whole added) = (whole < n) × (added < n)
IsBelow n (nodes.Tag whole name) = whole < n
IsBelow n (nodes.TagOf whole name argument) = (whole < n) × (argument < n)
IsBelow n (nodes.Including whole included) = (whole < n) × (included < n)
IsBelow n node = Unit {0}

-- Each node refers to earlier nodes only.
abbrev pub AreOrdered : List TypeTreeNode → Type 0
AreOrdered all = (i : ℕ) (node : TypeTreeNode) → slice_get all i ≡ Some node → IsBelow i node
