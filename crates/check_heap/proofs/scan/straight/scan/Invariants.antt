use Rattle.std.proofs.Common.{◌≡◌, length}
use Rattle.types_table.specs.type_table.Made.{table_of}
use Rattle.check_heap.specs.scan.Scan.{IsGoing}
use Rattle.check_heap.proofs.scan.straight.scan.Given as goal

abbrev pub invariant-loop-o : goal.invariant-loop-o
invariant-loop-o l =
    (length l.types ≡ length l.heap) × (l.steps ≡ l.fn.steps)
    × IsGoing (table_of l.fitting.table.now) l.heap l.marks l.types l.notes l.o l.taken
