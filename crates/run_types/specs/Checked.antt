-- The check that a value has the type.
use Rattle.std.specs.Prelude.{ℕ, ◌≡◌, ◌⊎◌, List, Result, Ok, Err}
use Rattle.cli_spec.specs.declared.exit.Exit.{Exit}
use Rattle.cli_spec.specs.declared.exit.Exit.TheVariants.{Untyped as untyped_value}
use Rattle.cli_spec.specs.declared.exit.Exit.TheVariants.{Memory as out_of_memory}
use Rattle.base_data.specs.declared.model.value.Val.{Val}
use Rattle.base_data.specs.declared.model.value.Obj.{Obj}
use Rattle.types_spec.specs.types.Equal.{declared_shapes}
use Rattle.types_spec.specs.types.TypeText.{type_text}
use Rattle.types_spec.specs.types.Typing.{HasType}
use Rattle.types_spec.specs.types.VerdictText.{IsNoLine}
use Rattle.types_theory.specs.type_variables.TypeVariables.{HasEachInstance}
use Rattle.cli_errors.specs.declared.exit_line.Error.{Error}
use Rattle.cli_errors.specs.declared.exit_line.Error.TheVariants as aborts
use Rattle.run_types.specs.declared.requested.Prepared.{Prepared}

-- The exit reason is that memory ran out, or it satisfies `Exits`.
abbrev pub OrMemory : (Exit → Type 0) → Exit → Type 0
OrMemory Exits exit = (exit ≡ out_of_memory) ⊎ Exits exit

abbrev pub IsUntypedExit : Prepared → ℕ → List Obj → Val → Exit → Type 0
IsUntypedExit r k graph v exit =
    (text : List ℕ) × IsNoLine (declared_shapes r.decls) type_text graph v r.ty text
    × (¬ HasEachInstance r.decls graph v r.ty) × (exit ≡ untyped_value k text)

-- If the result is `Ok`, then value `k` has the type and each closed instance of the type. If the
-- result is an exit reason, then memory ran out, or the value does not have the type. The result is
-- never a failed write.
abbrev pub ChecksType : {U : Type 0} → Prepared → ℕ → List Obj → Val → Result U Error → Type 0
ChecksType r k graph v (Ok unit) =
    HasType (declared_shapes r.decls) graph v r.ty × HasEachInstance r.decls graph v r.ty
ChecksType r k graph v (Err (aborts.Exit exit)) = OrMemory (IsUntypedExit r k graph v) exit
ChecksType r k graph v (Err aborts.WriteFault) = ⊥
