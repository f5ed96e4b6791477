-- The rows of types.
use Rattle.std.specs.Prelude.{ℕ, ◌≡◌, List, Some, slice_get}
use Rattle.types_spec.specs.declared.types.shape.ShapeOf.{ShapeOf}
use Rattle.types_spec.specs.types.Table.{node_or_none}
use Rattle.check_heap.specs.declared.fits.word_conditions.WordConditions.{WordConditions}
use Rattle.check_heap.specs.fits.ObjectRow.{IsRowOf}

-- Row `i` is a row of the type with number `i`.
abbrev pub AreRows : List (ShapeOf ℕ) → List WordConditions → Type 0
AreRows nodes rows =
    (i : ℕ) (row : WordConditions) → slice_get rows i ≡ Some row
    → IsRowOf (node_or_none (slice_get nodes i)) row
