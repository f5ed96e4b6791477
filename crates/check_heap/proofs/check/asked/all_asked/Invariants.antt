use Rattle.std.specs.Prelude.{ℕ, ◌<◌, IsTrue}
use Rattle.types_spec.specs.types.Table.{is_asked_in}
use Rattle.types_table.specs.type_table.Made.{table_of}
use Rattle.check_heap.proofs.check.asked.all_asked.Given as goal

abbrev pub invariant-loop-i : goal.invariant-loop-i
invariant-loop-i l = (t : ℕ) → t < l.i → IsTrue (is_asked_in (table_of l.table) t)
