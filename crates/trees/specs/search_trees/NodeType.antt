-- The type of a set or of a map, by the constructor of its nodes.
use Rattle.std.specs.Prelude.{ℕ, ◌≡◌, ◌⊎◌, false, Option}
use Rattle.types_spec.specs.declared.types.shape.Constr.{Constr}
use Rattle.types_spec.specs.declared.types.shape.ShapeOf.TheVariants as shapes
use Rattle.types_table.specs.declared.type_table.tabled.Tabled.{Tabled}
use Rattle.trees.specs.declared.search_trees.set_and_map_types.NodeRepresentation.{NodeRepresentation}
use Rattle.trees.specs.search_trees.TreeType.{layout_of, field_names, names_with, fields_in}
use Rattle.trees.specs.search_trees.TreeType.{shape_in}
use Rattle.trees.specs.search_trees.TreeType.{names_in, SameClass}

-- The types of the parts of a node: two trees of the type `t`, an element, and an integer.
pub record AreParts (table : Tabled) (t left element right height : ℕ) : Type 0 where
  pub left_same : SameClass table left t
  pub right_same : SameClass table right t
  pub ordered :
      (shape_in table element ≡ shapes.AnyInt) ⊎ (shape_in table element ≡ shapes.Bytes false)
  pub counted : shape_in table height ≡ shapes.AnyInt

-- The type has the names of a set or of a map, as `layout` states.
abbrev pub IsNamed : Tabled → ℕ → NodeRepresentation → Type 0
IsNamed table t layout = names_in table t ≡ names_with (field_names layout)

-- `constr` is the constructor of the nodes of a set or of a map.
pub record IsNodeType (table : Tabled) (t : ℕ) (constr : Constr ℕ) : Type 0 where
  pub left : ℕ
  pub element : ℕ
  pub kept : Option ℕ
  pub right : ℕ
  pub height : ℕ
  pub named : IsNamed table t (layout_of kept)
  pub shaped :
      constr ≡ record { mutable = false; fields = fields_in left element kept right height }
  pub parts : AreParts table t left element right height
