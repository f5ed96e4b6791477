use Rattle.types_table.specs.type_table.Made.{table_of}
use Rattle.check_heap.specs.check.Conflict.{NoneConflict}
use Rattle.check_heap.specs.check.Visits.{listed}
use Rattle.check_heap.proofs.check.conflict.first_conflict.Given as goal

abbrev pub invariant-loop-k : goal.invariant-loop-k
invariant-loop-k l = NoneConflict (table_of l.table) l.heap (listed l.visits) l.k
