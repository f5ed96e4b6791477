-- The first (least) fault: the type mismatch with the least path. If there is no type mismatch, the
-- least fault is an aliasing conflict. Among aliasing conflicts, the least second path decides, and
-- then the least first path. The order of faults is the project's own.
use Rattle.std.specs.Prelude.{◌≡◌, ◌⊎◌, List}
use Rattle.base_data.specs.declared.model.value.Val.{Val}
use Rattle.base_data.specs.declared.model.value.Obj.{Obj}
use Rattle.types_spec.specs.declared.types.fault.Fault.{Fault}
use Rattle.types_spec.specs.declared.types.fault.Fault.TheVariants.{Mismatch, Conflict}
use Rattle.types_spec.specs.types.Shapes.{Shapes}
use Rattle.types_spec.specs.types.Fault.{IsBefore, IsFault}

-- The first argument is reported before the second argument. Type mismatches come before aliasing
-- conflicts.
abbrev pub IsKnownBefore : Fault → Fault → Type 0
IsKnownBefore (Mismatch path) (Mismatch other) = IsBefore path other
IsKnownBefore (Mismatch path) (Conflict first second) = Unit {0}
IsKnownBefore (Conflict first second) (Mismatch path) = ⊥
IsKnownBefore (Conflict first second) (Conflict one other) =
    IsBefore second other ⊎ ((second ≡ other) × IsBefore first one)

-- `fault` is a fault of the value, and no other fault of the value is reported before `fault`.
pub record IsLeastFault {T : Type 0} (shapes : Shapes T) (graph : List Obj) (v : Val) (t : T)
    (fault : Fault) : Type 0 where
  pub is_fault : IsFault shapes graph v t fault
  pub least : (other : Fault) → IsFault shapes graph v t other → ¬ IsKnownBefore other fault
