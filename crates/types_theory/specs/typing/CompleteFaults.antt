-- Completeness of faults: a value without a fault has the type.
use Rattle.std.specs.Prelude.{◌⊎◌, List}
use Rattle.base_data.specs.declared.model.value.Val.{Val}
use Rattle.base_data.specs.declared.model.value.Obj.{Obj}
use Rattle.types_spec.specs.declared.types.fault.Fault.{Fault}
use Rattle.types_spec.specs.types.Shapes.{Shapes}
use Rattle.types_spec.specs.types.LawfulShapes.{AreLawful, Everything}
use Rattle.types_spec.specs.types.Typing.{HasType}
use Rattle.types_spec.specs.types.Fault.{IsFault}
use Rattle.types_theory.specs.typing.Decidable.{AreDecidable, ReachesFew}

-- The value has a fault at the type. One path or two paths determine a fault.
abbrev pub HasFault : {T : Type 0} → Shapes T → List Obj → Val → T → Type 0
HasFault shapes graph v t = (fault : Fault) × IsFault shapes graph v t fault

abbrev pub HasTypeOrFault : {T : Type 0} → Shapes T → List Obj → Val → T → Type 0
HasTypeOrFault shapes graph v t = HasType shapes graph v t ⊎ HasFault shapes graph v t

-- If the shapes are lawful and decidable and the type reaches finitely many types, then the value
-- has the type or has a fault at the type.
abbrev pub FaultsAreComplete : Type 1
FaultsAreComplete =
    (T : Type 0) (shapes : Shapes T) → AreLawful shapes Everything → AreDecidable shapes
    → (graph : List Obj) (v : Val) (t : T) → ReachesFew shapes t → HasTypeOrFault shapes graph v t
