-- Objects at constrained types. (A type is constrained if not every value has it.)
use Rattle.std.specs.Prelude.{ℕ, ◌≡◌, ◌⊎◌, ◌<◌, List, length, Some, slice_get, filter, IsTrue}
use Rattle.types_spec.specs.types.Table.{Table, is_asked_in}

-- The pairs with a constrained type.
abbrev pub asked_pairs : Table → List (ℕ × ℕ) → List (ℕ × ℕ)
asked_pairs table pairs = filter (λ (pair : ℕ × ℕ). is_asked_in table pair.1) pairs

-- All types in the list `types` are constrained.
abbrev pub AreAsked : Table → List ℕ → Type 0
AreAsked table types = (o t : ℕ) → slice_get types o ≡ Some t → IsTrue (is_asked_in table t)

-- All types in the list `types` are in the table.
abbrev pub AreWithin : Table → List ℕ → Type 0
AreWithin table types = (o t : ℕ) → slice_get types o ≡ Some t → t < length table.nodes

-- If all the types are constrained, `pairs` may be all the pairs. In every case, `pairs` may be the
-- pairs with a constrained type.
abbrev pub AreReached : Table → List ℕ → List (ℕ × ℕ) → List (ℕ × ℕ) → Type 0
AreReached table types all pairs =
    ((pairs ≡ all) × AreAsked table types) ⊎ (pairs ≡ asked_pairs table all)
