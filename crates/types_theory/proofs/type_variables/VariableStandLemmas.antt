-- A value has a type if and only if the value has every closed instance of the type. If a value has
-- a fault at a type, then the value does not have every closed instance of the type.
use Rattle.std.proofs.Common.{List}
use Rattle.types_spec.specs.declared.types.decl.Decl.{Decl}
use Rattle.types_spec.specs.types.Ty.{Ty}
use Rattle.types_spec.specs.types.WellFormed.{IsSoundType, AreWellFormed}
use Rattle.types_spec.specs.types.Reached.{IsReached}
use Rattle.types_spec.specs.types.Table.{Table}
use Rattle.types_theory.proofs.equality.EqualityReachedLemmas.{reached_listed}
use Rattle.types_theory.specs.table.TableDecides.{IsMadeFor}
use Rattle.types_theory.specs.type_variables.TypeVariables.{VariablesStandForAll, FaultsAreOfInstances}
use Rattle.types_theory.proofs.type_variables.VariableBackLemmas.{has_type, none}
use Rattle.types_theory.proofs.type_variables.ForthLemmas.{has_instance}
use Rattle.types_theory.proofs.type_variables.TableExists.{table_there}

-- A table of the types that a type reaches exists.
some_table : (decls : List Decl) (t : Ty) (types : List Ty) → AreWellFormed decls → IsSoundType decls t → IsReached decls t types
    → (table : Table) × IsMadeFor decls t types table
some_table decls t types well sound reached =
    let there = table_there decls types (reached_listed decls t types reached) in
    (there.0, record { well = well; sound = sound; reached = reached; made = there.1 })

pub stands_for_all : VariablesStandForAll
stands_for_all decls t types well sound reached graph v =
    let made = some_table decls t types well sound reached in (
      λ has value closed. has_instance decls t types made.0 made.1 graph value closed v has,
      λ each. has_type decls t types made.0 made.1 graph v each,
    )

pub faults_are_of_instances : FaultsAreOfInstances
faults_are_of_instances decls t types well sound reached graph v fault is each =
    none decls t types well sound reached graph v each fault is
