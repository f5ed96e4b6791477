use Rattle.types_table.specs.type_table.Made.{table_of}
use Rattle.check_heap.specs.check.Search.{IsTestingVisit}
use Rattle.check_heap.proofs.check.search.test_needs.Given as goal

abbrev pub invariant-loop-k : goal.invariant-loop-k
invariant-loop-k l = IsTestingVisit (table_of l.fitting.table.now) l.heap l.fn.visits l.visits l.visit l.n l.k l.seen l.fn.steps l.steps
