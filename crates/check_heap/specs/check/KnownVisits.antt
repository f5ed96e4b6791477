-- The visits of a search, each with its path.
use Rattle.std.specs.Prelude.{ℕ, ◌≡◌, ◌<◌, List, [], ◌∷◌, ◌++◌, length, Some, slice_get}
use Rattle.types_spec.specs.declared.types.fault.Fault.{Fault}
use Rattle.types_spec.specs.declared.types.fault.Fault.TheVariants.{Mismatch, Conflict}
use Rattle.types_spec.specs.types.SearchedPaths.{Entry}
use Rattle.check_heap.specs.declared.check.visits.Visit.{Visit}

-- Each visit except the first follows the visit that leads to it.
abbrev pub AreOrdered : List Visit → Type 0
AreOrdered all = (k : ℕ) (v : Visit) → 0 < k → slice_get all k ≡ Some v → v.parent < k

-- The entries have the objects and types of the visits. The first entry has the empty path. Each
-- further entry has the path of its parent, extended by the entry's step.
pub record AreKnown (all : List Visit) (known : List (Entry ℕ)) : Type 0 where
  pub many : length known ≡ length all
  pub objects :
      (k : ℕ) (v : Visit) (e : Entry ℕ) → slice_get all k ≡ Some v → slice_get known k ≡ Some e
      → e.object ≡ v.object
  pub types :
      (k : ℕ) (v : Visit) (e : Entry ℕ) → slice_get all k ≡ Some v → slice_get known k ≡ Some e
      → e.type ≡ v.ty
  pub root : (e : Entry ℕ) → slice_get known 0 ≡ Some e → e.path ≡ []
  pub paths :
      (k : ℕ) (v : Visit) (e p : Entry ℕ) → 0 < k → slice_get all k ≡ Some v
      → slice_get known k ≡ Some e → slice_get known v.parent ≡ Some p
      → e.path ≡ p.path ++ v.step ∷ []

-- The path `path` leads to visit `k`.
abbrev pub IsPathOf : List Visit → ℕ → List ℕ → Type 0
IsPathOf all k path =
    (known : List (Entry ℕ)) (e : Entry ℕ) → AreKnown all known → slice_get known k ≡ Some e
    → path ≡ e.path

-- The fault is the aliasing conflict of visits `i` and `k`, with the paths to the visits.
abbrev pub IsConflictOf : List Visit → ℕ → ℕ → Fault → Type 0
IsConflictOf all i k (Mismatch path) = ⊥
IsConflictOf all i k (Conflict first second) = IsPathOf all i first × IsPathOf all k second

-- The path to visit `k` is the path to visit `at`, extended by the steps `steps`.
pub record IsRestOf (all : List Visit) (k at : ℕ) (steps : List ℕ) : Type 0 where
  pub within : at < length all
  pub rest :
      (known : List (Entry ℕ)) (e f : Entry ℕ) → AreKnown all known → slice_get known k ≡ Some e
      → slice_get known at ≡ Some f → e.path ≡ f.path ++ steps
