use Rattle.std.proofs.Common.{◌≡◌, length}
use Rattle.check_heap.specs.scan.FittingRows.{AreRows}
use Rattle.check_heap.proofs.scan.type_rows.rows_of.Given as goal

abbrev pub invariant-loop-i : goal.invariant-loop-i
invariant-loop-i l = (length l.rows.items ≡ l.i) × AreRows l.table.nodes l.rows.items
