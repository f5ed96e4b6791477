-- Instances of types, computed node by node.
use Rattle.std.specs.Prelude.{ℕ, ◌<◌, ◌≡◌, List, Option, Some, None, All, length, map, take}
use Rattle.types_spec.specs.types.Ty.{Ty, variable, argument_for, instance}
use Rattle.types_spec.specs.declared.types.ty.TypeTreeNode.{TypeTreeNode}
use Rattle.types_spec.specs.declared.types.ty.TypeTreeNode.TheVariants as nodes
use Rattle.types_spec.specs.types.TypeNodes.{type_at, types_of, type_of_node}
use Rattle.types_table.specs.store.Held.{Grows}

-- The instance of a node over the types of earlier nodes: a variable is replaced by `value`.
abbrev pub instance_of_node : (List ℕ → Ty) → List Ty → TypeTreeNode → Ty
instance_of_node value types (nodes.Variable name) = value name
instance_of_node value types node = type_of_node types node

-- The type that replaces the parameter with a name. The arguments are given by their numbers.
abbrev pub argument_at : List Ty → List (List ℕ) → List ℕ → List ℕ → Ty
argument_at types parameters arguments = argument_for parameters (map (type_at types) arguments)

-- The type with the given number, or the variable `name` if no number is given.
abbrev pub type_or_variable : List Ty → List ℕ → Option ℕ → Ty
type_or_variable types name (Some number) = type_at types number
type_or_variable types name None = variable name

-- `numbers` are the numbers of the instances of the first `k` nodes, and `types` extends `old`.
pub record AreInstances (old types : List Ty) (value : List ℕ → Ty) (all : List TypeTreeNode)
    (k : ℕ)
    (numbers : List ℕ) : Type 0 where
  pub grown : Grows old types
  pub below : All (λ i. i < length types) numbers
  pub are : map (type_at types) numbers ≡ map (instance value) (types_of (take k all))

-- `all` are the types with the numbers `numbers`.
pub record HasNumbers (types all : List Ty) (numbers : List ℕ) : Type 0 where
  pub below : All (λ i. i < length types) numbers
  pub are : map (type_at types) numbers ≡ all

-- `new` is `old` followed by zero or more types. `all` are the types with the numbers `numbers` in
-- `new`.
pub record HoldsEach (old new all : List Ty) (numbers : List ℕ) : Type 0 where
  pub grown : Grows old new
  pub has : HasNumbers new all numbers
