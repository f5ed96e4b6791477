-- Equivalence classes of types by number: the invariants of partition refinement, and its result
-- (after Hopcroft 1971).
use Rattle.std.specs.Prelude.{ℕ, ◌<◌, ◌≡◌, ◌⊎◌, Contains}
use Rattle.types_spec.specs.declared.types.head.HeadOf.{HeadOf}
use Rattle.types_spec.specs.types.Reached.{parts_of}
use Rattle.types_spec.specs.types.Equal.{HeadsAgree, EqualBy}

-- Two numbers below `n` are in one class.
pub record AreTogether (n : ℕ) (class : ℕ → ℕ) (i j : ℕ) : Type 0 where
  pub first : i < n
  pub second : j < n
  pub same : class i ≡ class j

-- Each part of the head of a number below `n` is a number below `n`.
abbrev pub PartsBelow : ℕ → (ℕ → HeadOf ℕ) → Type 0
PartsBelow n head = (i k : ℕ) → i < n → Contains (parts_of (head i)) k → k < n

-- If two numbers are in one class, then their heads agree, when parts in one class count as equal.
abbrev pub IsStable : ℕ → (ℕ → HeadOf ℕ) → (ℕ → ℕ) → Type 0
IsStable n head class =
    (i j : ℕ) → AreTogether n class i j → HeadsAgree (AreTogether n class) (head i) (head j)

-- If two numbers are equal by their heads, then the two numbers are in one class.
abbrev pub KeepsTogether : ℕ → (ℕ → HeadOf ℕ) → (ℕ → ℕ) → Type 0
KeepsTogether n head class =
    (i j : ℕ) → i < n → j < n → EqualBy head i j → AreTogether n class i j

-- ---- one class at a time

-- If two numbers in one class are done (`Done`), then their heads agree, when parts in one class
-- count as equal.
abbrev pub IsStableFor : ℕ → (ℕ → HeadOf ℕ) → (ℕ → ℕ) → (ℕ → Type 0) → Type 0
IsStableFor n head class Done =
    (i j : ℕ) → AreTogether n class i j → Done i → Done j
    → HeadsAgree (AreTogether n class) (head i) (head j)

-- A refinement splits the members, which form whole classes, by the signatures of the members'
-- heads over the old classes. If two numbers are in one old class and their heads agree, then the
-- split keeps the two numbers together.
pub record IsSplit (n : ℕ) (head : ℕ → HeadOf ℕ) (old new : ℕ → ℕ) (Member : ℕ → Type 0)
    : Type 0 where
  pub whole : (i j : ℕ) → AreTogether n old i j → Member j → Member i
  pub finer : (i j : ℕ) → AreTogether n new i j → AreTogether n old i j
  pub keeps :
      (i j : ℕ) → AreTogether n old i j → HeadsAgree (AreTogether n old) (head i) (head j)
      → AreTogether n new i j
  pub parts :
      (i j : ℕ) → AreTogether n new i j → Member i
      → HeadsAgree (AreTogether n old) (head i) (head j)

-- The numbers that are done after a split: the members, and the numbers done before the split. If a
-- split gives a new class to a part of a number's head, the number is not done.
abbrev pub DoneNow : (ℕ → HeadOf ℕ) → (ℕ → ℕ) → (ℕ → ℕ) → (ℕ → Type 0) → (ℕ → Type 0) → ℕ → Type 0
DoneNow head old new Member Done i =
    (Member i ⊎ ((¬ Member i) × Done i))
    × ((k : ℕ) → Contains (parts_of (head i)) k → new k ≡ old k)
