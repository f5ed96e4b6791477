-- Lists of numbers, one list for each class or for each number.
use Rattle.std.specs.Prelude.{ℕ, ◌≡◌, ◌≢◌, ◌<◌, ◌⊎◌, List, length, Some, slice_get, slice_index}
use Rattle.std.specs.Prelude.{Contains}
use Rattle.std.specs.Global.{Vec}

-- The list at index `at` contains the number `x`.
abbrev pub Has : List (Vec ℕ) → ℕ → ℕ → Type 0
Has lists at x = (v : Vec ℕ) × (slice_get lists at ≡ Some v) × Contains v.items x

-- The number of lists is unchanged, and each list contains at least the elements of the old list.
pub record Keeps (old new : List (Vec ℕ)) : Type 0 where
  pub many : length new ≡ length old
  pub kept : (d y : ℕ) → Has old d y → Has new d y

-- The list at index `at` contains the number `x` and all its old elements. Each list at another
-- index has the same elements as before.
pub record IsWritten (old : List (Vec ℕ)) (at x : ℕ) (new : List (Vec ℕ)) : Type 0 where
  pub keeps : Keeps old new
  pub there : Has new at x
  pub back : (d y : ℕ) → Has new d y → Has old d y ⊎ (d ≡ at)

-- The list at index `at` is now empty. Each list at another index has the same elements as before.
pub record IsTaken (old : List (Vec ℕ)) (at : ℕ) (taken : List ℕ) (new : List (Vec ℕ))
    : Type 0 where
  pub many : length new ≡ length old
  pub there : (y : ℕ) → Has old at y → Contains taken y
  pub kept : (d y : ℕ) → d ≢ at → Has old d y → Has new d y
  pub back : (d y : ℕ) → Has new d y → (d ≢ at) × Has old d y

-- There are `count` lists, and the lists after the old ones are empty.
pub record HasRooms (old : List (Vec ℕ)) (count : ℕ) (new : List (Vec ℕ)) : Type 0 where
  pub many : length new ≡ count
  pub there : (d y : ℕ) → Has old d y → Has new d y
  pub back : (d y : ℕ) → Has new d y → Has old d y

-- `found` contains the numbers of `numbers` that have class `wanted`.
pub record IsOfClass (numbers class : List ℕ) (wanted : ℕ) (found : List ℕ) : Type 0 where
  pub is : (x : ℕ) → Contains found x → (x < length class) × (slice_index class x ≡ wanted)
  pub has : (x : ℕ) → Contains numbers x → x < length class → slice_index class x ≡ wanted
      → Contains found x

-- The list of class `wanted` contains only numbers of class `wanted`. If a number was in the list
-- of its class, then the number is still in the list of its class.
pub record IsShorter (class : List ℕ) (wanted : ℕ) (old new : List (Vec ℕ)) : Type 0 where
  pub many : length new ≡ length old
  pub of_class : (y : ℕ) → Has new wanted y → (y < length class) × (slice_index class y ≡ wanted)
  pub kept : (y : ℕ) → y < length class → Has old (slice_index class y) y
      → Has new (slice_index class y) y

-- The number of lists is unchanged. If a number was in the list of its class, then the number is
-- still in the list of its class.
pub record KeepsMembers (class : List ℕ) (old new : List (Vec ℕ)) : Type 0 where
  pub many : length new ≡ length old
  pub kept : (y : ℕ) → y < length class → Has old (slice_index class y) y
      → Has new (slice_index class y) y
