use Rattle.types_spec.specs.types.Fault.{IsMismatch}
use Rattle.types_spec.specs.types.Table.{table_shapes}
use Rattle.types_table.specs.type_table.Made.{table_of}
use Rattle.check_fault.proofs.NearLemmas.{NoneBelow}
use Rattle.check_fault.proofs.near.unfit_part.Given as goal

-- No field inside a field that was tested has a mismatch.
abbrev pub invariant-loop-i : goal.invariant-loop-i
invariant-loop-i l =
    NoneBelow (IsMismatch (table_shapes (table_of l.tried.table.now)) l.tried.heap.now l.tried.value l.tried.at) 1 l.i
