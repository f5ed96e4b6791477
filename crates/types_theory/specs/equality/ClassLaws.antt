-- Laws of partition refinement on the numbers of types.
use Rattle.std.specs.Prelude.{ℕ, ◌≡◌, ◌↔◌, Bool, IsTrue, List, length, Some, slice_get}
use Rattle.types_spec.specs.declared.types.decl.Decl.{Decl}
use Rattle.types_spec.specs.declared.types.head.HeadOf.{HeadOf}
use Rattle.types_spec.specs.types.Ty.{Ty}
use Rattle.types_spec.specs.types.Table.{head_at, AreHeadsOf}
use Rattle.types_spec.specs.types.Equal.{HeadsAgree, EqualBy, Equal}
use Rattle.types_spec.specs.types.Classes.{AreTogether, PartsBelow, IsStable, KeepsTogether}
use Rattle.types_spec.specs.types.Classes.{IsStableFor, IsSplit, DoneNow}

-- If the classes are stable, then the numbers in one class are equal.
abbrev pub StableClassesAreEqual : Type 0
StableClassesAreEqual =
    (n : ℕ) (head : ℕ → HeadOf ℕ) (class : ℕ → ℕ) → IsStable n head class
    → (i j : ℕ) → AreTogether n class i j → EqualBy head i j

-- A split never separates equal numbers. `member` is true for the members of the class that is
-- split.
abbrev pub SplitsKeepTogether : Type 0
SplitsKeepTogether =
    (n : ℕ) (head : ℕ → HeadOf ℕ) (old new : ℕ → ℕ) (member : ℕ → Bool) → PartsBelow n head
    → IsSplit n head old new (λ i. IsTrue (member i))
    → KeepsTogether n head old → KeepsTogether n head new

-- After a split, the members of the class that was split are done. A number that was done before
-- the split stays done, unless the number has a part whose class is new.
abbrev pub SplitsSettle : Type 0
SplitsSettle =
    (n : ℕ) (head : ℕ → HeadOf ℕ) (old new : ℕ → ℕ) (member done : ℕ → Bool)
    → IsSplit n head old new (λ i. IsTrue (member i))
    → IsStableFor n head old (λ i. IsTrue (done i))
    → IsStableFor n head new (DoneNow head old new (λ i. IsTrue (member i)) (λ i. IsTrue (done i)))

-- ---- the initial and the final classes

-- If numbers whose heads agree up to parts always have the same class, then the classes separate no
-- equal numbers.
abbrev pub StartsKeepTogether : Type 0
StartsKeepTogether =
    (n : ℕ) (head : ℕ → HeadOf ℕ) (class : ℕ → ℕ)
    → ((i j : ℕ) → HeadsAgree (λ a b. Unit {0}) (head i) (head j) → class i ≡ class j)
    → KeepsTogether n head class

-- The parts of the heads of types are numbers of types.
abbrev pub PartsAreTypes : Type 0
PartsAreTypes =
    (decls : List Decl) (types : List Ty) (all : List (HeadOf ℕ)) → AreHeadsOf decls types all
    → PartsBelow (length types) (head_at all)

-- Numbers are equal if and only if their types are equal.
abbrev pub NumbersAreEqual : Type 0
NumbersAreEqual =
    (decls : List Decl) (types : List Ty) (all : List (HeadOf ℕ)) → AreHeadsOf decls types all
    → (i j : ℕ) (t u : Ty) → slice_get types i ≡ Some t → slice_get types j ≡ Some u
    → EqualBy (head_at all) i j ↔ Equal decls t u

-- If classes are stable and separate no equal numbers, then the classes are exactly the classes of
-- equal types.
abbrev pub ClassesAreOfEqualTypes : Type 0
ClassesAreOfEqualTypes =
    (decls : List Decl) (types : List Ty) (all : List (HeadOf ℕ)) (class : ℕ → ℕ)
    → AreHeadsOf decls types all → IsStable (length types) (head_at all) class
    → KeepsTogether (length types) (head_at all) class
    → (i j : ℕ) (t u : Ty) → slice_get types i ≡ Some t → slice_get types j ≡ Some u
    → (class i ≡ class j) ↔ Equal decls t u
