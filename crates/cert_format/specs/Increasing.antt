-- The order of the pairs of objects and types in an entry.
use Rattle.std.specs.Prelude.{ℕ, ◌<◌, ◌≡◌, ◌⊎◌, List, Some, slice_get}

-- Pair `one` is smaller than pair `other`: by object, then by type.
abbrev pub IsSmaller : ℕ × ℕ → ℕ × ℕ → Type 0
IsSmaller one other = (one.0 < other.0) ⊎ ((one.0 ≡ other.0) × (one.1 < other.1))

-- Each pair is smaller than all pairs after it.
abbrev pub AreIncreasing : List (ℕ × ℕ) → Type 0
AreIncreasing pairs =
    (j k : ℕ) (one other : ℕ × ℕ) → j < k → slice_get pairs j ≡ Some one
    → slice_get pairs k ≡ Some other → IsSmaller one other

-- All pairs of the list are smaller than this pair.
abbrev pub IsAbove : List (ℕ × ℕ) → ℕ × ℕ → Type 0
IsAbove pairs pair = (k : ℕ) (one : ℕ × ℕ) → slice_get pairs k ≡ Some one → IsSmaller one pair
