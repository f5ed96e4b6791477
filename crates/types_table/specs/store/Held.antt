-- The effect of calls that add elements to a store.
use Rattle.std.specs.Prelude.{ℕ, ◌≡◌, ◌⊎◌, List, [], ◌∷◌, ◌++◌, slice_get, Some}

-- No element occurs twice.
abbrev pub AreDistinct : {T : Type 0} → List T → Type 0
AreDistinct {T} xs =
    (i j : ℕ) (x : T) → slice_get xs i ≡ Some x → slice_get xs j ≡ Some x → i ≡ j

-- `new` equals `old`, or is `old` followed by `x`. In `new`, `x` is at index `number`.
pub record AddsOnce {T : Type 0} (old new : List T) (x : T) (number : ℕ) : Type 0 where
  pub grown : (new ≡ old) ⊎ (new ≡ old ++ x ∷ [])
  pub there : slice_get new number ≡ Some x

-- `new` is `old` followed by zero or more elements. In `new`, `x` is at index `number`.
pub record Holds {T : Type 0} (old new : List T) (x : T) (number : ℕ) : Type 0 where
  pub added : List T
  pub kept : new ≡ old ++ added
  pub there : slice_get new number ≡ Some x

-- `new` is `old` followed by zero or more elements.
pub record Grows {T : Type 0} (old new : List T) : Type 0 where
  pub added : List T
  pub kept : new ≡ old ++ added
