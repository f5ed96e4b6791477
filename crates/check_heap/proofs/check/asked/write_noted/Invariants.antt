use Rattle.std.specs.Prelude.{◌≡◌, ◌++◌, take}
use Rattle.types_table.specs.type_table.Made.{table_of}
use Rattle.check_heap.specs.scan.Seconds.{noted_in}
use Rattle.check_heap.specs.check.AskedPairs.{asked_pairs}
use Rattle.check_heap.proofs.check.asked.write_noted.Given as goal

abbrev pub invariant-loop-k : goal.invariant-loop-k
invariant-loop-k l =
    l.pairs.items ≡ l.fn.pairs.items ++ asked_pairs (table_of l.table) (take l.k (noted_in l.seconds))
