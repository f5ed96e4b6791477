-- Aliasing conflicts between visits, stated by their indices.
use Rattle.std.specs.Prelude.{ℕ, ◌≡◌, ◌⊎◌, ◌<◌, ◌≤◌, Bool, IsTrue, List, length, Some, slice_get}
use Rattle.base_data.specs.declared.model.value.Obj.{Obj}
use Rattle.types_spec.specs.types.Fitting.{is_mutable}
use Rattle.types_spec.specs.types.Table.{Table, node_or_none}
use Rattle.check_heap.specs.declared.check.visits.Visit.{Visit}

-- The object of the visit is in the heap, and the type of the visit is in the table.
abbrev pub IsWithin : Table → List Obj → Visit → Type 0
IsWithin table graph v = (v.object < length graph) × (v.ty < length table.nodes)

-- Returns true if the object of a visit is mutable at the visit's type. The object must match the
-- type's representation.
abbrev pub mutable_at : Table → List Obj → Visit → Bool
mutable_at table graph v =
    is_mutable (node_or_none (slice_get table.nodes v.ty)) (slice_get graph v.object)

-- Visit `i` precedes visit `k`, both visits are of one object, and the object is mutable at the
-- type of one of the visits.
pub record ConflictAt (table : Table) (graph : List Obj) (all : List Visit) (i k : ℕ) : Type 0 where
  pub one : Visit
  pub other : Visit
  pub at_first : slice_get all i ≡ Some one
  pub at_second : slice_get all k ≡ Some other
  pub before : i < k
  pub same : one.object ≡ other.object
  pub mutable : IsTrue (mutable_at table graph one) ⊎ IsTrue (mutable_at table graph other)

-- None of the first `n` visits conflicts with an earlier visit.
abbrev pub NoneConflict : Table → List Obj → List Visit → ℕ → Type 0
NoneConflict table graph all n = (i k : ℕ) → k < n → ¬ ConflictAt table graph all i k

-- No object is visited twice at one class.
abbrev pub AreApart : Table → List Visit → Type 0
AreApart table all =
    (j k : ℕ) (v w : Visit) → slice_get all j ≡ Some v → slice_get all k ≡ Some w
    → v.object ≡ w.object
    → slice_get table.classes v.ty ≡ slice_get table.classes w.ty → j ≡ k

-- Visit `f` is the first visit of the object of visit `k`.
pub record IsFirstOf (all : List Visit) (k f : ℕ) : Type 0 where
  pub within : f ≤ k
  pub first : Visit
  pub at_first : slice_get all f ≡ Some first
  pub same : (v : Visit) → slice_get all k ≡ Some v → first.object ≡ v.object
  pub none : (j : ℕ) (v : Visit) → j < f → slice_get all j ≡ Some v → ¬ (v.object ≡ first.object)

-- Visit `k` conflicts with the first visit of the object of visit `k`.
abbrev pub ConflictsBack : Table → List Obj → List Visit → ℕ → Type 0
ConflictsBack table graph all k = (f : ℕ) × IsFirstOf all k f × ConflictAt table graph all f k

-- Visit `k` is the first visit that conflicts with an earlier visit, and `i` is the first visit
-- with which visit `k` conflicts.
pub record IsFirstConflict (table : Table) (graph : List Obj) (all : List Visit) (i k : ℕ)
    : Type 0 where
  pub conflict : ConflictAt table graph all i k
  pub second : NoneConflict table graph all k
  pub first : (j : ℕ) → j < i → ¬ ConflictAt table graph all j k
