-- The paths of a fault without their last steps.
use Rattle.std.specs.Prelude.{ℕ, ◌≡◌, List, [], ◌∷◌, ◌++◌, Some}
use Rattle.base_data.specs.declared.model.value.Val.{Val}
use Rattle.base_data.specs.declared.model.value.Val.TheVariants as vals
use Rattle.base_data.specs.declared.model.value.Obj.{Obj}
use Rattle.types_spec.specs.declared.types.fault.Fault.{Fault}
use Rattle.types_spec.specs.declared.types.fault.Fault.TheVariants.{Mismatch, Conflict}
use Rattle.types_spec.specs.types.Shapes.{Shapes}
use Rattle.types_spec.specs.types.Fault.{IsBefore, value_at}

-- If the path without its last step leads to an object at a type, then no lesser path leads to the
-- same object at an equal type.
abbrev pub IsLeastWay : {T : Type 0} → Shapes T → List Obj → Val → T → List ℕ → Type 0
IsLeastWay {T} shapes graph root t path =
    (prefix : List ℕ) (i : ℕ) → path ≡ prefix ++ i ∷ [] → (o : ℕ) (u : T) (other : List ℕ) (w : T)
    → value_at shapes graph root t prefix ≡ Some (vals.Ref o, u)
    → value_at shapes graph root t other ≡ Some (vals.Ref o, w) → shapes.equal u w
    → ¬ IsBefore other prefix

-- Each path of the fault, without the path's last step, is the least path to an object at a type.
abbrev pub AreLeastWays : {T : Type 0} → Shapes T → List Obj → Val → T → Fault → Type 0
AreLeastWays shapes graph root t (Mismatch path) = IsLeastWay shapes graph root t path
AreLeastWays shapes graph root t (Conflict first second) =
    IsLeastWay shapes graph root t first × IsLeastWay shapes graph root t second
