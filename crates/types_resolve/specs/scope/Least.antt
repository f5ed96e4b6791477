-- The least position at which a property holds.
use Rattle.std.specs.Prelude.{ℕ, ◌<◌, min, Bool, Option, None, Some, if◌then◌else◌}

-- `None`: the property holds at no position. `Some k`: the property holds at position `k` and at no
-- lesser position.
abbrev pub IsLeast : (ℕ → Type 0) → Option ℕ → Type 0
IsLeast Holds None = (k : ℕ) → ¬ Holds k
IsLeast Holds (Some k) = Holds k × ((j : ℕ) → j < k → ¬ Holds j)

-- The lesser of two positions. If only one of the two positions exists, the existing position.
abbrev pub earliest : Option ℕ → Option ℕ → Option ℕ
earliest None second = second
earliest (Some j) None = Some j
earliest (Some j) (Some k) = Some (min j k)

-- `position` if `test` is true, and `None` if `test` is false.
abbrev pub position_if : Bool → ℕ → Option ℕ
position_if test position = if test then Some position else None
