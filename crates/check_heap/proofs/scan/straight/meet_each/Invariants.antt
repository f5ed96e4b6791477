use Rattle.types_table.specs.type_table.Made.{table_of}
use Rattle.check_heap.specs.scan.Scan.{IsMeeting}
use Rattle.check_heap.proofs.scan.straight.meet_each.Given as goal

abbrev pub invariant-loop-k : goal.invariant-loop-k
invariant-loop-k l = IsMeeting (table_of l.fitting.table.now) l.heap l.fn.marks l.marks l.fn.notes l.notes l.o l.ty l.k l.taken
