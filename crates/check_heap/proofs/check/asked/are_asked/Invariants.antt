use Rattle.std.specs.Prelude.{ℕ, ◌≡◌, ◌<◌, Some, slice_get, IsTrue}
use Rattle.types_spec.specs.types.Table.{is_asked_in}
use Rattle.types_table.specs.type_table.Made.{table_of}
use Rattle.check_heap.proofs.check.asked.are_asked.Given as goal

abbrev pub invariant-loop-o : goal.invariant-loop-o
invariant-loop-o l =
    (p t : ℕ) → p < l.o → slice_get l.types p ≡ Some t → IsTrue (is_asked_in (table_of l.table) t)
