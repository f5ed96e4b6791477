-- The visits of a search, and the records about their objects.
use Rattle.std.specs.Prelude.{ℕ, suc, ◌≡◌, ◌⊎◌, ◌<◌, List, [], ◌∷◌, ◌++◌, length, Option}
use Rattle.std.specs.Prelude.{Some, slice_get}
use Rattle.types_spec.specs.types.Table.{Table}
use Rattle.check_heap.specs.scan.Classed.{Has}
use Rattle.check_heap.specs.declared.check.visits.Visit.{Visit}
use Rattle.check_heap.specs.declared.check.visits.Visits.{Visits}

abbrev pub listed : Visits → List Visit
listed v = v.all

-- Some visit is of the object `o` at a type of the class.
abbrev pub IsMet : Table → List Visit → ℕ → Option ℕ → Type 0
IsMet table all o class =
    (k : ℕ) × (v : Visit) × (slice_get all k ≡ Some v) × (v.object ≡ o)
    × (slice_get table.classes v.ty ≡ class)

-- The first visit of the object `o` is at type `t`.
pub record IsFirstAt (all : List Visit) (o t : ℕ) : Type 0 where
  pub position : ℕ
  pub visit : Visit
  pub at : slice_get all position ≡ Some visit
  pub object : visit.object ≡ o
  pub type : visit.ty ≡ t
  pub none : (j : ℕ) (v : Visit) → j < position → slice_get all j ≡ Some v → ¬ (v.object ≡ o)

-- The records contain for each object the type of the object's first visit, and the further classes
-- at which the object was visited.
pub record AreNoted (table : Table) (all : List Visit) (first : List ℕ) (later : ℕ → ℕ → Type 0)
    : Type 0 where
  pub unmet : (o k : ℕ) (v : Visit) → slice_get first o ≡ Some 0 → slice_get all k ≡ Some v
      → ¬ (v.object ≡ o)
  pub met : (o t : ℕ) → slice_get first o ≡ Some (suc t) → IsFirstAt all o t
  pub known :
      (o t k c : ℕ) (v : Visit) → slice_get first o ≡ Some (suc t) → slice_get all k ≡ Some v
      → v.object ≡ o
      → slice_get table.classes v.ty ≡ Some c → (slice_get table.classes t ≡ Some c) ⊎ later o c
  pub there : (o c : ℕ) → later o c → IsMet table all o (Some c)

pub record AreLinked (table : Table) (objects : ℕ) (visits : Visits) : Type 0 where
  pub many : length visits.first ≡ objects
  pub noted : AreNoted table (listed visits) visits.first (Has visits.later)

-- The new list of visits is the old list with one more visit at the end.
abbrev pub IsAppended : List Visit → List Visit → ℕ → ℕ → ℕ → ℕ → Type 0
IsAppended old new o t parent step =
    new ≡ old ++ record { object = o; ty = t; parent = parent; step = step } ∷ []

-- If the object was visited at the type's class before, nothing changes. If not, a visit is added.
abbrev pub Enters : Table → List Visit → List Visit → ℕ → ℕ → ℕ → ℕ → Type 0
Enters table old new o t parent step =
    (IsMet table old o (slice_get table.classes t) × (new ≡ old))
    ⊎ ((¬ IsMet table old o (slice_get table.classes t)) × IsAppended old new o t parent step)
