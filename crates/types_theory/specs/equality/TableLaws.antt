-- Laws of a table of the types that a type reaches.
use Rattle.std.specs.Prelude.{ℕ, ◌≡◌, ◌↔◌, List, Some, slice_get}
use Rattle.base_data.specs.declared.model.value.Val.{Val}
use Rattle.base_data.specs.declared.model.value.Obj.{Obj}
use Rattle.types_spec.specs.declared.types.fault.Fault.{Fault}
use Rattle.types_spec.specs.declared.types.decl.Decl.{Decl}
use Rattle.types_spec.specs.types.Ty.{Ty}
use Rattle.types_spec.specs.types.WellFormed.{AreSound, AreKnownByHash}
use Rattle.types_spec.specs.types.Equal.{declared_shapes}
use Rattle.types_spec.specs.types.Fault.{IsFault}
use Rattle.types_spec.specs.types.LeastFault.{IsLeastFault}
use Rattle.types_spec.specs.types.Reached.{IsReached}
use Rattle.types_spec.specs.types.Table.{Table, table_shapes, IsTableOf}
use Rattle.types_spec.specs.types.LawfulShapes.{AreLawful, Everything}

-- Over accepted declarations, a table of the types that a type reaches has lawful shapes.
abbrev pub TablesAreLawful : Type 0
TablesAreLawful =
    (decls : List Decl) (t : Ty) (types : List Ty) (table : Table)
    → AreSound decls → IsReached decls t types → AreKnownByHash decls types
    → IsTableOf decls types table → AreLawful (table_shapes table) Everything

-- A value has the same faults at a type and at the type's number in the table.
abbrev pub TablesHaveTheFaults : Type 0
TablesHaveTheFaults =
    (decls : List Decl) (types : List Ty) (table : Table) → IsTableOf decls types table
    → (graph : List Obj) (v : Val) (i : ℕ) (u : Ty) → slice_get types i ≡ Some u → (fault : Fault)
    → IsFault (table_shapes table) graph v i fault ↔ IsFault (declared_shapes decls) graph v u fault

-- A value has the same least fault at a type and at the type's number in the table.
abbrev pub TablesHaveTheLeastFault : Type 0
TablesHaveTheLeastFault =
    (decls : List Decl) (types : List Ty) (table : Table) → IsTableOf decls types table
    → (graph : List Obj) (v : Val) (i : ℕ) (u : Ty) → slice_get types i ≡ Some u → (fault : Fault)
    → IsLeastFault (table_shapes table) graph v i fault
    ↔ IsLeastFault (declared_shapes decls) graph v u fault
