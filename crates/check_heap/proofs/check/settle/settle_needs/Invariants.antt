use Rattle.types_table.specs.type_table.Made.{table_of}
use Rattle.check_heap.specs.check.Settled.{FindsNeeds}
use Rattle.check_heap.proofs.check.settle.settle_needs.Given as goal

abbrev pub invariant-loop-k : goal.invariant-loop-k
invariant-loop-k l = FindsNeeds (table_of l.fitting.table.now) l.heap l.types l.fn.seconds l.seconds l.object l.ty l.k
