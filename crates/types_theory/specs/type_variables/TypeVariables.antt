-- The meaning of a type with variables, in terms of the closed types that can replace the
-- variables. The types of Henry, Mauny, Chailloux and Manoury 2012 are closed.
use Rattle.std.specs.Prelude.{ℕ, ◌↔◌, List, [], Contains}
use Rattle.base_data.specs.declared.model.value.Val.{Val}
use Rattle.base_data.specs.declared.model.value.Obj.{Obj}
use Rattle.types_spec.specs.declared.types.decl.Decl.{Decl}
use Rattle.types_spec.specs.declared.types.fault.Fault.{Fault}
use Rattle.types_spec.specs.types.Ty.{Ty, instance}
use Rattle.types_spec.specs.types.WellFormed.{IsSoundType, VariablesAmong, AreWellFormed}
use Rattle.types_spec.specs.types.Equal.{declared_shapes}
use Rattle.types_spec.specs.types.Fault.{IsFault}
use Rattle.types_spec.specs.types.Reached.{reached_from, IsReached}
use Rattle.types_spec.specs.types.Table.{Table, table_shapes}
use Rattle.types_spec.specs.types.Typing.{HasType}
use Rattle.types_theory.specs.table.TableDecides.{IsMadeFor}

-- A closed type: a sound type without variables. Finitely many sound types include the closed type
-- and all types that the closed type reaches.
pub record IsClosedType (decls : List Decl) (t : Ty) : Type 0 where
  pub no_variables : VariablesAmong [] t
  pub types : List Ty
  pub own : Contains types t
  pub sound : (u : Ty) → Contains types u → IsSoundType decls u
  pub reached :
      (u a : Ty) → Contains types u → Contains (reached_from decls u) a → Contains types a

-- `value` replaces each variable by a closed type.
abbrev pub AreClosed : List Decl → (List ℕ → Ty) → Type 0
AreClosed decls value = (x : List ℕ) → IsClosedType decls (value x)

-- The value has every closed instance of the type.
abbrev pub HasEachInstance : List Decl → List Obj → Val → Ty → Type 0
HasEachInstance decls graph v t =
    (value : List ℕ → Ty) → AreClosed decls value
    → HasType (declared_shapes decls) graph v (instance value t)

-- A value has a type if and only if it has every closed instance of the type.
abbrev pub VariablesStandForAll : Type 0
VariablesStandForAll =
    (decls : List Decl) (t : Ty) (types : List Ty)
    → AreWellFormed decls → IsSoundType decls t → IsReached decls t types
    → (graph : List Obj) (v : Val)
    → HasType (declared_shapes decls) graph v t ↔ HasEachInstance decls graph v t

-- If a value has a fault at a type, then the value does not have every closed instance of the type.
abbrev pub FaultsAreOfInstances : Type 0
FaultsAreOfInstances =
    (decls : List Decl) (t : Ty) (types : List Ty)
    → AreWellFormed decls → IsSoundType decls t → IsReached decls t types
    → (graph : List Obj) (v : Val) (fault : Fault)
    → IsFault (declared_shapes decls) graph v t fault → ¬ HasEachInstance decls graph v t

-- A value has the number 0 in the table made for a type if and only if the value has every closed
-- instance of the type.
abbrev pub NumbersStandForAll : Type 0
NumbersStandForAll =
    (decls : List Decl) (t : Ty) (types : List Ty) (table : Table) → IsMadeFor decls t types table
    → (graph : List Obj) (v : Val)
    → HasType (table_shapes table) graph v 0 ↔ HasEachInstance decls graph v t

-- If a sound type has no variables and reaches finitely many types, then the type is closed.
abbrev pub ReachedAreClosed : Type 0
ReachedAreClosed =
    (decls : List Decl) (t : Ty) (types : List Ty)
    → AreWellFormed decls → IsSoundType decls t → VariablesAmong [] t
    → IsReached decls t types → IsClosedType decls t
