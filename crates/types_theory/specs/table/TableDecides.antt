-- A table of types agrees with the declared types for which the table was made.
use Rattle.std.specs.Prelude.{ℕ, ◌≡◌, ◌↔◌, ◌⊎◌, List, Some, slice_get}
use Rattle.base_data.specs.declared.model.value.Val.{Val}
use Rattle.base_data.specs.declared.model.value.Obj.{Obj}
use Rattle.types_spec.specs.declared.types.decl.Decl.{Decl}
use Rattle.types_spec.specs.declared.types.fault.Fault.{Fault}
use Rattle.types_spec.specs.types.Ty.{Ty}
use Rattle.types_spec.specs.types.WellFormed.{AreWellFormed, IsSoundType}
use Rattle.types_spec.specs.types.Equal.{declared_shapes}
use Rattle.types_spec.specs.types.Fault.{IsFault}
use Rattle.types_spec.specs.types.Reached.{IsReached}
use Rattle.types_spec.specs.types.Table.{Table, table_shapes, IsTableOf}
use Rattle.types_spec.specs.types.Typing.{HasType}

-- `table` is the table of the types that the sound type `t` reaches, over well-formed declarations.
pub record IsMadeFor (decls : List Decl) (t : Ty) (types : List Ty) (table : Table) : Type 0 where
  pub well : AreWellFormed decls
  pub sound : IsSoundType decls t
  pub reached : IsReached decls t types
  pub made : IsTableOf decls types table

-- The type for which the list of reached types was made has the number 0.
abbrev pub TheRootIsFirst : Type 0
TheRootIsFirst =
    (decls : List Decl) (t : Ty) (types : List Ty) → IsReached decls t types
    → slice_get types 0 ≡ Some t

-- A value has a type if and only if the value has the type's number in the table.
abbrev pub TablesDecide : Type 0
TablesDecide =
    (decls : List Decl) (t : Ty) (types : List Ty) (table : Table) → IsMadeFor decls t types table
    → (graph : List Obj) (v : Val) (i : ℕ) (u : Ty) → slice_get types i ≡ Some u
    → HasType (table_shapes table) graph v i ↔ HasType (declared_shapes decls) graph v u

-- A value has each type of the table or has a fault at the type. `NeverBoth` states that no value
-- has both a type and a fault at the type.
abbrev pub TypeOrFault : Type 0
TypeOrFault =
    (decls : List Decl) (t : Ty) (types : List Ty) (table : Table) → IsMadeFor decls t types table
    → (graph : List Obj) (v : Val) (i : ℕ) (u : Ty) → slice_get types i ≡ Some u
    → HasType (declared_shapes decls) graph v u
    ⊎ ((fault : Fault) × IsFault (declared_shapes decls) graph v u fault)

abbrev pub NeverBoth : Type 0
NeverBoth =
    (decls : List Decl) (t : Ty) (types : List Ty) → AreWellFormed decls → IsSoundType decls t
    → IsReached decls t types → (graph : List Obj) (v : Val) (fault : Fault)
    → IsFault (declared_shapes decls) graph v t fault → ¬ HasType (declared_shapes decls) graph v t
