-- The effect of one comparison step. The step adds exactly the pairs that the two compared values
-- need in order to agree.
use Rattle.std.specs.Prelude.{ℕ, ◌<◌, ◌≡◌, ◌↔◌, Bool, true, false, List, ◌++◌, Result, Ok, Err}
use Rattle.std.specs.Prelude.{Contains, ⊤}
use Rattle.base_data.specs.declared.model.out_of_memory.Memory.{Memory}

-- The pairing is one-to-one: no number occurs twice on one side.
abbrev pub AreOneToOne : List (ℕ × ℕ) → Type 0
AreOneToOne pairs =
    (k l m n : ℕ) → Contains pairs (k, l) → Contains pairs (m, n) → (k ≡ m) ↔ (l ≡ n)

-- The numbers of each pair are below the bounds `lefts` and `rights`.
abbrev pub AreInRange : List (ℕ × ℕ) → ℕ → ℕ → Type 0
AreInRange pairs lefts rights = (k l : ℕ) → Contains pairs (k, l) → (k < lefts) × (l < rights)

abbrev pub AreAmong : List (ℕ × ℕ) → List (ℕ × ℕ) → Type 0
AreAmong pairs others = (k l : ℕ) → Contains pairs (k, l) → Contains others (k, l)

-- The list of old pairs is a prefix of the list of new pairs.
abbrev pub StandInPrefix : List (ℕ × ℕ) → List (ℕ × ℕ) → Type 0
StandInPrefix old new = (more : List (ℕ × ℕ)) × (new ≡ old ++ more)

-- Two compared values, fields or objects agree under the new pairs. Each one-to-one pairing that
-- contains the old pairs and makes the two agree contains every new pair.
pub record AreMet (old new : List (ℕ × ℕ)) (agree : List (ℕ × ℕ) → Type 0) : Type 0 where
  pub kept : StandInPrefix old new
  pub agree_now : agree new
  pub needed : (pairs : List (ℕ × ℕ)) → AreOneToOne pairs → AreAmong old pairs → agree pairs
      → AreAmong new pairs

-- No one-to-one pairing that contains the old pairs makes the two compared values, fields or
-- objects agree.
abbrev pub CannotMeet : List (ℕ × ℕ) → (List (ℕ × ℕ) → Type 0) → Type 0
CannotMeet old agree =
    (pairs : List (ℕ × ℕ)) → AreOneToOne pairs → AreAmong old pairs → agree pairs → ⊥

abbrev pub Meets : List (ℕ × ℕ) → List (ℕ × ℕ) → (List (ℕ × ℕ) → Type 0) → Result Bool Memory
    → Type 0
Meets old new agree (Ok true) = AreMet old new agree
Meets old new agree (Ok false) = CannotMeet old agree
Meets old new agree (Err memory) = ⊤
