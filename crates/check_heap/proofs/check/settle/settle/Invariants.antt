use Rattle.std.proofs.Common.{◌-◌, ◌^◌}
use Rattle.types_table.specs.type_table.Made.{table_of}
use Rattle.check_heap.specs.check.Settled.{IsCounting}
use Rattle.check_heap.proofs.check.settle.settle.Given as goal

abbrev pub invariant-loop-n : goal.invariant-loop-n
invariant-loop-n l = IsCounting (table_of l.fitting.table.now) l.heap l.types l.seconds l.n l.fn.steps l.steps

-- The number of pairs is below 2^64.
abbrev pub decreases-loop-n : goal.decreases-loop-n
decreases-loop-n l = 2 ^ 64 - l.n
