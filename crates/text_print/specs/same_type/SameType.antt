-- Isomorphic values have the same types and the same faults.
use Rattle.std.specs.Prelude.{ℕ, List}
use Rattle.base_data.specs.declared.model.value.Val.{Val}
use Rattle.base_data.specs.declared.model.value.Obj.{Obj}
use Rattle.marshal_spec.specs.format.Isomorphism.{Isomorphism}
use Rattle.types_spec.specs.declared.types.decl.Decl.{Decl}
use Rattle.types_spec.specs.types.Ty.{Ty}
use Rattle.types_spec.specs.types.Equal.{declared_shapes}
use Rattle.types_spec.specs.types.Table.{Table, table_shapes}
use Rattle.types_spec.specs.types.Typing.{HasType}
use Rattle.types_spec.specs.declared.types.fault.Fault.{Fault}
use Rattle.types_spec.specs.types.LeastFault.{IsLeastFault}
use Rattle.types_spec.specs.types.VerdictText.{IsNoLine}

-- If a value has a type over declarations, then each isomorphic value has the type.
abbrev pub DeclaredTypesAreKept : Type 0
DeclaredTypesAreKept =
    (decls : List Decl) (g h : List Obj) (v w : Val) (t : Ty) → Isomorphism g v h w
    → HasType (declared_shapes decls) g v t → HasType (declared_shapes decls) h w t

-- If a value has a type of a table, given by its number, then each isomorphic value has the type.
abbrev pub TableTypesAreKept : Type 0
TableTypesAreKept =
    (table : Table) (g h : List Obj) (v w : Val) (i : ℕ) → Isomorphism g v h w
    → HasType (table_shapes table) g v i → HasType (table_shapes table) h w i

-- If a fault is the first fault of a value, then the fault is the first fault of each isomorphic
-- value.
abbrev pub DeclaredFaultsAreKept : Type 0
DeclaredFaultsAreKept =
    (decls : List Decl) (g h : List Obj) (v w : Val) (t : Ty) (fault : Fault) → Isomorphism g v h w
    → IsLeastFault (declared_shapes decls) g v t fault
    → IsLeastFault (declared_shapes decls) h w t fault

abbrev pub TableFaultsAreKept : Type 0
TableFaultsAreKept =
    (table : Table) (g h : List Obj) (v w : Val) (i : ℕ) (fault : Fault) → Isomorphism g v h w
    → IsLeastFault (table_shapes table) g v i fault → IsLeastFault (table_shapes table) h w i fault

-- Isomorphic values have the same line that reports the first fault, whatever the texts of the
-- types are.
abbrev pub DeclaredLinesAreKept : Type 0
DeclaredLinesAreKept =
    (decls : List Decl) (text_of : Ty → List ℕ) (g h : List Obj) (v w : Val) (t : Ty)
    (line : List ℕ) → Isomorphism g v h w
    → IsNoLine (declared_shapes decls) text_of g v t line
    → IsNoLine (declared_shapes decls) text_of h w t line
