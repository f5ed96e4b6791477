use Rattle.std.proofs.Common.{◌≡◌, ◌<◌, length, drop}
use Rattle.base_data.specs.model.Graph.{IsValue}
use Rattle.types_spec.specs.types.Fault.{value_at}
use Rattle.types_spec.specs.types.Table.{table_shapes}
use Rattle.types_table.specs.type_table.Made.{table_of}
use Rattle.check_fault.proofs.path_steps.walk.Given as goal

-- From the value that was reached, the remaining steps lead where the whole path leads from the
-- root.
abbrev pub invariant-loop-i : goal.invariant-loop-i
invariant-loop-i l =
    (value_at (table_shapes (table_of l.table)) l.heap l.fn.value.root 0 l.path
    ≡ value_at (table_shapes (table_of l.table)) l.heap l.found l.at (drop l.i l.path))
    × IsValue (length l.heap) l.found × (l.at < length l.table.nodes)
