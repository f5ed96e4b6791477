-- The numbers in a compact vector.
use Rattle.std.specs.Prelude.{ℕ, List}
use Rattle.check_heap.specs.declared.scan.number_cells.NumberRow.{NumberRow}
use Rattle.check_heap.specs.declared.scan.number_cells.NumberRow.TheVariants as rows

abbrev pub numbers_in : NumberRow → List ℕ
numbers_in (rows.Bytes row) = row.items
numbers_in (rows.Shorts row) = row.items
numbers_in (rows.Longs row) = row.items
