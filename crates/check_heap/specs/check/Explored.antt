-- The invariant of a search.
use Rattle.std.specs.Prelude.{ℕ, ◌≡◌, ◌⊎◌, ◌<◌, List, [], ◌∷◌, ◌++◌, length, Some, slice_get}
use Rattle.std.specs.Prelude.{IsTrue}
use Rattle.base_data.specs.declared.model.value.Val.{Val}
use Rattle.base_data.specs.declared.model.value.Val.TheVariants as vals
use Rattle.base_data.specs.declared.model.value.Obj.{Obj}
use Rattle.types_spec.specs.types.Fault.{IsBefore, field_of, value_at}
use Rattle.types_spec.specs.types.SearchedPaths.{Entry, IsEntered}
use Rattle.types_spec.specs.types.Table.{Table, table_shapes, typed_fields, is_asked_in}
use Rattle.check_heap.specs.declared.check.visits.Visit.{Visit}
use Rattle.check_heap.specs.check.KnownVisits.{AreOrdered, AreKnown}

-- Field `j` of visit `k` precedes field `r` of visit `n`. The fields are counted among the fields
-- that have types.
abbrev pub ComesBefore : ℕ → ℕ → ℕ → ℕ → Type 0
ComesBefore k j n r = (k < n) ⊎ ((k ≡ n) × (j < r))

-- The fields of an entry's object that have types at the entry's type, in order. A field is
-- required if the field's type is constrained.
abbrev pub entry_fields : Table → List Obj → Entry ℕ → List (ℕ × ℕ)
entry_fields table graph e = typed_fields table graph (vals.Ref e.object) e.type

-- Field `i` of an entry exists and matches the type `a`, and the object of the field is entered.
pub record IsMetNeed (table : Table) (graph : List Obj) (known : List (Entry ℕ)) (e : Entry ℕ)
    (i a : ℕ) : Type 0 where
  pub value : Val
  pub there : field_of graph (vals.Ref e.object) i ≡ Some value
  pub fits : (table_shapes table).fits graph value a
  pub entered : IsEntered (table_shapes table) known value a (e.path ++ i ∷ [])

-- Required field number `need` of an earlier entry leads to the entry `e`.
pub record IsLedTo (table : Table) (graph : List Obj) (known : List (Entry ℕ)) (n r : ℕ)
    (e : Entry ℕ) : Type 0 where
  pub parent : ℕ
  pub need : ℕ
  pub entry : Entry ℕ
  pub at : slice_get known parent ≡ Some entry
  pub before : ComesBefore parent need n r
  pub number : ℕ
  pub type : ℕ
  pub needed : slice_get (entry_fields table graph entry) need ≡ Some (number, type)
  pub asked : IsTrue (is_asked_in table type)
  pub path : e.path ≡ entry.path ++ number ∷ []

-- The entries that a search knows after all required fields before field `r` of entry `n` were
-- tested.
pub record AreExplored (table : Table) (graph : List Obj) (root : ℕ) (known : List (Entry ℕ))
    (n r : ℕ) : Type 0 where
  pub rooted : slice_get known 0 ≡ Some (record { path = []; object = root; type = 0 })
  pub leads :
      (k : ℕ) (e : Entry ℕ) → slice_get known k ≡ Some e
      → value_at (table_shapes table) graph (vals.Ref root) 0 e.path
      ≡ Some (vals.Ref e.object, e.type)
  pub fit : (k : ℕ) (e : Entry ℕ) → slice_get known k ≡ Some e
      → (table_shapes table).fits graph (vals.Ref e.object) e.type
  pub increasing :
      (j k : ℕ) (a b : Entry ℕ) → j < k → slice_get known j ≡ Some a → slice_get known k ≡ Some b
      → IsBefore a.path b.path
  pub apart :
      (j k : ℕ) (a b : Entry ℕ) → slice_get known j ≡ Some a → slice_get known k ≡ Some b
      → a.object ≡ b.object → (table_shapes table).equal a.type b.type → j ≡ k
  pub objects : (k : ℕ) (e : Entry ℕ) → slice_get known k ≡ Some e → e.object < length graph
  pub types : (k : ℕ) (e : Entry ℕ) → slice_get known k ≡ Some e → e.type < length table.nodes
  pub led : (k : ℕ) (e : Entry ℕ) → 0 < k → slice_get known k ≡ Some e
      → IsLedTo table graph known n r e
  pub done :
      (k j i a : ℕ) (e : Entry ℕ) → ComesBefore k j n r → slice_get known k ≡ Some e
      → slice_get (entry_fields table graph e) j ≡ Some (i, a) → IsTrue (is_asked_in table a)
      → IsMetNeed table graph known e i a

-- The object of the first visit.
abbrev pub root_of : List Visit → ℕ
root_of [] = 0
root_of (v ∷ all) = v.object

-- The statement `AreExplored` for the entries of the visits.
pub record IsExplored (table : Table) (graph : List Obj) (all : List Visit) (n r : ℕ) : Type 0 where
  pub known : List (Entry ℕ)
  pub are_known : AreKnown all known
  pub ordered : AreOrdered all
  pub explored : AreExplored table graph (root_of all) known n r
