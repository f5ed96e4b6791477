use Rattle.std.proofs.Common.{ℕ, ◌≡◌, length}
use Rattle.std.specs.Prelude.{slice_index}
use Rattle.types_table.proofs.partition.all_classes.zeros.Given as goal

abbrev pub invariant-loop-number : goal.invariant-loop-number
invariant-loop-number l = (length l.found.items ≡ l._number) × ((i : ℕ) → slice_index l.found.items i ≡ 0)
