-- The classes of equal numbers.
use Rattle.std.specs.Prelude.{ℕ, ◌≡◌, ◌<◌, ◌↔◌, List, length, slice_get}
use Rattle.types_spec.specs.declared.types.head.HeadOf.{HeadOf}
use Rattle.types_spec.specs.types.Table.{head_at}
use Rattle.types_spec.specs.types.Equal.{EqualBy}

-- Two numbers have the same class if and only if they are equal.
pub record AreClasses (all : List (HeadOf ℕ)) (found : List ℕ) : Type 0 where
  pub many : length found ≡ length all
  pub same :
      (i j : ℕ) → i < length all → j < length all
      → (slice_get found i ≡ slice_get found j) ↔ EqualBy (head_at all) i j
