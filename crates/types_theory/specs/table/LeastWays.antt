-- The paths of least faults.
use Rattle.std.specs.Prelude.{ℕ, List}
use Rattle.base_data.specs.declared.model.value.Val.{Val}
use Rattle.base_data.specs.declared.model.value.Obj.{Obj}
use Rattle.types_spec.specs.declared.types.fault.Fault.{Fault}
use Rattle.types_spec.specs.types.LawfulShapes.{AreLawful, Everything}
use Rattle.types_spec.specs.types.LeastFault.{IsLeastFault}
use Rattle.types_spec.specs.types.Table.{Table, table_shapes}
use Rattle.types_theory.specs.typing.LeastWay.{AreLeastWays}

-- Each path of the least fault, without the path's last step, is the least path to an object at a
-- type, up to equal types. The least fault is decided by finitely many paths: one path to each
-- object at each class of equal types, and one more step.
abbrev pub LeastFaultsHaveLeastWays : Type 0
LeastFaultsHaveLeastWays =
    (table : Table) → AreLawful (table_shapes table) Everything
    → (graph : List Obj) (root : Val) (t : ℕ) (fault : Fault)
    → IsLeastFault (table_shapes table) graph root t fault
    → AreLeastWays (table_shapes table) graph root t fault
