-- Shapes that require less of values of the same types (this project's own).
use Rattle.std.specs.Prelude.{ℕ, List, Contains}
use Rattle.base_data.specs.declared.model.value.Val.{Val}
use Rattle.base_data.specs.declared.model.value.Val.TheVariants as vals
use Rattle.base_data.specs.declared.model.value.Obj.{Obj}
use Rattle.types_spec.specs.declared.types.decl.Decl.{Decl}
use Rattle.types_spec.specs.types.Equal.{declared_shapes}
use Rattle.types_spec.specs.types.Shapes.{Shapes}
use Rattle.types_spec.specs.types.Table.{Table, table_shapes}
use Rattle.types_spec.specs.types.Typing.{HasType}

-- Each value that matches the strong shapes matches the weak shapes. If a value matches the strong
-- shapes, the weak shapes require only fields of the value that the strong shapes require. If an
-- object matches the strong shapes and is mutable by the weak shapes, the object is mutable by the
-- strong shapes. If types are equal by the strong shapes, the types are equal by the weak shapes.
pub record IsWeaker {T : Type 0} (weak strong : Shapes T) : Type 0 where
  pub fits : (graph : List Obj) (v : Val) (t : T) → strong.fits graph v t → weak.fits graph v t
  pub needs :
      (graph : List Obj) (v : Val) (t : T) (i : ℕ) (u : T) → strong.fits graph v t
      → Contains (weak.needs graph v t) (i, u) → Contains (strong.needs graph v t) (i, u)
  pub mutable :
      (graph : List Obj) (o : ℕ) (t : T) → strong.fits graph (vals.Ref o) t
      → weak.mutable graph o t → strong.mutable graph o t
  pub equal : (t u : T) → strong.equal t u → weak.equal t u

-- Each value with a type over the strong shapes has the type over the weak shapes.
abbrev pub HasMore : {T : Type 0} → Shapes T → Shapes T → Type 0
HasMore {T} weak strong =
    (graph : List Obj) (v : Val) (t : T) → HasType strong graph v t → HasType weak graph v t

-- If one list of declarations has weaker shapes than another list, each value with a type over the
-- stronger shapes has the type over the weaker shapes.
abbrev pub WeakerDeclarationsHaveMore : Type 0
WeakerDeclarationsHaveMore =
    (weak strong : List Decl) → IsWeaker (declared_shapes weak) (declared_shapes strong)
    → HasMore (declared_shapes weak) (declared_shapes strong)

-- If one table has weaker shapes than another table, each value with a number in the stronger table
-- has the number in the weaker table.
abbrev pub WeakerTablesHaveMore : Type 0
WeakerTablesHaveMore =
    (weak strong : Table) → IsWeaker (table_shapes weak) (table_shapes strong)
    → HasMore (table_shapes weak) (table_shapes strong)
