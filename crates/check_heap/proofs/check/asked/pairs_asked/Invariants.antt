use Rattle.std.specs.Prelude.{◌≡◌, take}
use Rattle.types_spec.specs.types.Fitting.{numbered_from}
use Rattle.types_table.specs.type_table.Made.{table_of}
use Rattle.check_heap.specs.check.AskedPairs.{asked_pairs}
use Rattle.check_heap.proofs.check.asked.pairs_asked.Given as goal

abbrev pub invariant-loop-o : goal.invariant-loop-o
invariant-loop-o l = l.pairs.items ≡ asked_pairs (table_of l.table) (take l.o (numbered_from 0 l.types))
