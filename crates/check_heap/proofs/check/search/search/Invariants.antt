use Rattle.std.proofs.Common.{◌-◌, ◌^◌}
use Rattle.types_table.specs.type_table.Made.{table_of}
use Rattle.check_heap.specs.check.Search.{IsSearching}
use Rattle.check_heap.proofs.check.search.search.Given as goal

abbrev pub invariant-loop-fitting : goal.invariant-loop-fitting
invariant-loop-fitting l = IsSearching (table_of l.fitting.table.now) l.heap l.taken l.fn.visits l.visits l.n l.fn.steps l.steps

-- The number of visits is below 2^64.
abbrev pub decreases-loop-fitting : goal.decreases-loop-fitting
decreases-loop-fitting l = 2 ^ 64 - l.n
