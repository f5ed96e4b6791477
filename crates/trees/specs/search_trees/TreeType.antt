-- The types of sets and maps, which are variants as in `set.ml` and `map.ml` of OCaml's standard
-- library:
--
--     type t = Empty | Node of {l: t; v: elt; r: t; h: int}
--     type t = Empty | Node of {l: t; v: key; d: data; r: t; h: int}
use Rattle.std.specs.Prelude.{ℕ, ◌≡◌, ◌⊎◌, false, List, [], ◌∷◌, Option, Some, None, slice_get}
use Rattle.std.specs.Prelude.{codes}
use Rattle.types_spec.specs.declared.types.names.ConstrNames.{ConstrNames}
use Rattle.types_spec.specs.declared.types.names.Names.{Names}
use Rattle.types_spec.specs.declared.types.shape.ShapeOf.{ShapeOf}
use Rattle.types_spec.specs.declared.types.shape.ShapeOf.TheVariants as shapes
use Rattle.types_spec.specs.types.Names.{no_names}
use Rattle.types_spec.specs.types.Table.{node_or_none}
use Rattle.types_table.specs.declared.type_table.tabled.Tabled.{Tabled}
use Rattle.trees.specs.declared.search_trees.set_and_map_types.NodeRepresentation.{NodeRepresentation}
use Rattle.trees.specs.declared.search_trees.set_and_map_types.NodeRepresentation.TheVariants as layouts

-- The representation of a node. If a node has a datum, then the node belongs to a map.
abbrev pub layout_of : {T : Type 0} → Option T → NodeRepresentation
layout_of None = layouts.Set
layout_of (Some carried) = layouts.Map

-- ---- names

-- The names of the fields of a node.
abbrev pub field_names : NodeRepresentation → List (List ℕ)
field_names layouts.Set = codes "l" ∷ codes "v" ∷ codes "r" ∷ codes "h" ∷ []
field_names layouts.Map = codes "l" ∷ codes "v" ∷ codes "d" ∷ codes "r" ∷ codes "h" ∷ []

abbrev pub node_with : List (List ℕ) → ConstrNames
node_with fields = record { name = codes "Node"; fields = fields }

-- The names of the type of a tree: `Empty`, and `Node` with the fields `fields`.
abbrev pub names_with : List (List ℕ) → Names
names_with fields = record no_names {
  constants = codes "Empty" ∷ [];
  constructors = node_with fields ∷ [];
}

-- ---- shapes

abbrev pub fields_in : {T : Type 0} → T → T → Option T → T → T → List T
fields_in left element None right height = left ∷ element ∷ right ∷ height ∷ []
fields_in left element (Some carried) right height = left ∷ element ∷ carried ∷ right ∷ height ∷ []

-- The shape of the type of a tree, whose nodes are immutable.
abbrev pub tree_shape : {T : Type 0} → T → T → Option T → T → T → ShapeOf T
tree_shape left element kept right height = shapes.Sum 1
    (record { mutable = false; fields = fields_in left element kept right height } ∷ [])

module _ {T : Type 0} (shape : T → ShapeOf T) (names : T → Names) (Equal : T → T → Type 0) where
  -- The type has `Empty`, and `Node` with two parts of the type `t`, an element, and an integer.
  -- Only `int` has the shape of all integers, and only `string` has the shape of immutable bytes.
  pub record IsTreeType (t : T) : Type 0 where
    pub left : T
    pub element : T
    pub kept : Option T
    pub right : T
    pub height : T
    pub named : names t ≡ names_with (field_names (layout_of kept))
    pub shaped : shape t ≡ tree_shape left element kept right height
    pub left_same : Equal left t
    pub right_same : Equal right t
    pub ordered : (shape element ≡ shapes.AnyInt) ⊎ (shape element ≡ shapes.Bytes false)
    pub counted : shape height ≡ shapes.AnyInt

-- ---- the types of a table, by index

abbrev pub shape_in : Tabled → ℕ → ShapeOf ℕ
shape_in table i = node_or_none (slice_get table.nodes i)

abbrev pub names_or_none : Option Names → Names
names_or_none None = no_names
names_or_none (Some names) = names

abbrev pub names_in : Tabled → ℕ → Names
names_in table i = names_or_none (slice_get table.names i)

abbrev pub SameClass : Tabled → ℕ → ℕ → Type 0
SameClass table i j = slice_get table.classes i ≡ slice_get table.classes j

abbrev pub IsTreeNumber : Tabled → ℕ → Type 0
IsTreeNumber table i = IsTreeType (shape_in table) (names_in table) (SameClass table) i
