-- Invariants of the scan.
use Rattle.std.specs.Prelude.{ℕ, suc, ◌+◌, ◌^◌, ◌≡◌, ◌⊎◌, ◌<◌, ◌≤◌, List, [], length, take, Option}
use Rattle.std.specs.Prelude.{Some, None, slice_get, slice_index, Contains, IsTrue, MatchOption}
use Rattle.std.specs.Prelude.{Bool, true, false}
use Rattle.base_data.specs.declared.model.value.Val.{Val}
use Rattle.base_data.specs.declared.model.value.Val.TheVariants as vals
use Rattle.base_data.specs.declared.model.value.Obj.{Obj}
use Rattle.types_spec.specs.types.Table.{Table, table_shapes, is_asked_in}
use Rattle.types_spec.specs.types.Typing.{IsListed}
use Rattle.marshal_heap.specs.heap.Heap.{key_of, field_at, word_of}
use Rattle.check_heap.specs.declared.scan.notes.First.{First}
use Rattle.check_heap.specs.declared.scan.notes.Notes.{Notes}
use Rattle.check_heap.specs.declared.scan.notes.Unmet.{Unmet}
use Rattle.check_heap.specs.declared.scan.second_types.SecondTypes.{SecondTypes}
use Rattle.check_heap.specs.declared.scan.straight.ScanStop.{ScanStop}
use Rattle.check_heap.specs.declared.scan.straight.ScanStop.TheVariants as stops
use Rattle.check_heap.specs.scan.Paths.{HasPath, IsLed}
use Rattle.check_heap.specs.scan.Seconds.{noted_in, AreSeconds, IsNoting}
use Rattle.check_heap.specs.scan.Scanned.{object_typed, cost_of}

-- ---- marks

-- The mark of an object. If the object was not referenced, the mark is 0. If the object was
-- referenced, the mark is 1 plus the type of the first reference.
abbrev pub mark_of : List Obj → List ℕ → ℕ → ℕ
mark_of graph marks o = slice_index marks (key_of graph o)

-- There is a mark for each object. Each mark is 0, or 1 plus a type. If the type of a mark
-- constrains its values, some path leads to the marked object at the type.
pub record AreMarks (table : Table) (graph : List Obj) (marks : List ℕ) : Type 0 where
  pub keyed : (o : ℕ) → o < length graph → key_of graph o < length marks
  pub small : (key : ℕ) → slice_index marks key ≤ length table.nodes
  pub paths : (o t : ℕ) → o < length graph → mark_of graph marks o ≡ suc t
      → IsLed table graph o t

-- Marks that are not 0 are unchanged.
abbrev pub AreKept : List ℕ → List ℕ → Type 0
AreKept old new = (key : ℕ) → 0 < slice_index old key → slice_index new key ≡ slice_index old key

-- ---- noted objects

-- The object `o` was referenced at another class before, and some path reaches the object at type
-- `t`.
pub record IsSecond (table : Table) (graph : List Obj) (marks : List ℕ) (o t : ℕ) : Type 0 where
  pub inside : o < length graph
  pub within : t < length table.nodes
  pub path : HasPath table graph (vals.Ref 0) o t
  pub first : ℕ
  pub marked : mark_of graph marks o ≡ suc first
  pub other : ¬ (table_shapes table).equal first t

pub record AreNoted (table : Table) (graph : List Obj) (marks : List ℕ) (seconds : SecondTypes)
    : Type 0 where
  pub valid : AreSeconds table seconds
  pub all : (o t : ℕ) → Contains (noted_in seconds) (o, t) → IsSecond table graph marks o t

-- All pairs that were noted in `old` are noted in `new`.
abbrev pub AreStillNoted : List (ℕ × ℕ) → List (ℕ × ℕ) → Type 0
AreStillNoted old new = (p : ℕ × ℕ) → Contains old p → Contains new p

-- If the object of the word was noted at an equal type, nothing changes. If not, the pair of the
-- object and the type is appended.
abbrev pub IsNotedAt :
    Table → List Obj → List (ℕ × ℕ) → List (ℕ × ℕ) → ℕ → ℕ → Type 0
IsNotedAt table graph old new word t =
    (o : ℕ) × (o < length graph) × (word ≡ word_of graph (vals.Ref o)) × IsNoting table old new o t

-- The first noted object that is already known, or `first` if none is known.
abbrev pub first_or : Option First → First → Option First
first_or None first = Some first
first_or (Some known) first = Some known

-- The record of an object that was referenced at a second class by field `field` of object `o`.
abbrev pub first_of : ℕ → ℕ → ℕ → ℕ → ℕ → First
first_of o t position field steps = record {
  object = o;
  ty = t;
  unmet = record { position = position; field = field; unfit = false };
  steps = steps;
}

-- ---- required fields

-- The value is satisfied at the type. A value that is no object must match the type, and an object
-- must be marked with an equal type.
abbrev pub IsMet : Table → List Obj → List ℕ → Val → ℕ → Type 0
IsMet table graph marks (vals.Int z) t = (table_shapes table).fits graph (vals.Int z) t
IsMet table graph marks (vals.Atom tag) t = (table_shapes table).fits graph (vals.Atom tag) t
IsMet table graph marks (vals.Ref o) t =
    (u : ℕ) × (mark_of graph marks o ≡ suc u) × (table_shapes table).equal u t

-- The value is an object that is marked with an unequal type.
abbrev pub IsOther : Table → List Obj → List ℕ → Val → ℕ → Type 0
IsOther table graph marks (vals.Int z) t = ⊥
IsOther table graph marks (vals.Atom tag) t = ⊥
IsOther table graph marks (vals.Ref o) t =
    (u : ℕ) × (mark_of graph marks o ≡ suc u) × ¬ (table_shapes table).equal u t

-- The value is an object that is noted at an equal type.
abbrev pub IsNoted : Table → List (ℕ × ℕ) → Val → ℕ → Type 0
IsNoted table noted (vals.Int z) t = ⊥
IsNoted table noted (vals.Atom tag) t = ⊥
IsNoted table noted (vals.Ref o) t = IsListed (table_shapes table) noted (vals.Ref o) t

-- The value is no object and does not match the type.
abbrev pub IsUnfit : Table → List Obj → Val → ℕ → Type 0
IsUnfit table graph (vals.Int z) t = ¬ (table_shapes table).fits graph (vals.Int z) t
IsUnfit table graph (vals.Atom tag) t = ¬ (table_shapes table).fits graph (vals.Atom tag) t
IsUnfit table graph (vals.Ref o) t = ⊥

-- Among the first `r` typed fields of an object at a type, the value of each required field is
-- satisfied or noted.
abbrev pub AreMet : Table → List Obj → List ℕ → List (ℕ × ℕ) → ℕ → ℕ → ℕ → Type 0
AreMet table graph marks noted o t r =
    (j i a : ℕ) → j < r → slice_get (object_typed table graph o t) j ≡ Some (i, a)
    → IsTrue (is_asked_in table a)
    → IsMet table graph marks (field_at graph o i) a ⊎ IsNoted table noted (field_at graph o i) a

-- The required field `unmet` is the first field of the object whose value is neither satisfied nor
-- noted.
pub record IsUnmet (table : Table) (graph : List Obj) (marks : List ℕ) (noted : List (ℕ × ℕ))
    (o t : ℕ) (unmet : Unmet) : Type 0 where
  pub type : ℕ
  pub at : slice_get (object_typed table graph o t) unmet.position ≡ Some (unmet.field, type)
  pub asked : IsTrue (is_asked_in table type)
  pub met : AreMet table graph marks noted o t unmet.position
  pub unfit : IsTrue unmet.unfit → IsUnfit table graph (field_at graph o unmet.field) type
  pub small : unmet.field + 1 < 2 ^ 64

-- The first noted object was noted at a required field of object `o`, before which `steps` steps
-- were counted.
pub record IsFirstOf (table : Table) (graph : List Obj) (marks : List ℕ) (o t steps : ℕ)
    (first : First) : Type 0 where
  pub object : first.object ≡ o
  pub type : first.ty ≡ t
  pub before : first.steps ≡ steps
  pub unmet : IsUnmet table graph marks [] o t first.unmet

-- If an object was noted, the notes record the field at which the first object was noted.
abbrev pub IsKnownIn : Table → List Obj → List ℕ → ℕ → ℕ → ℕ → Notes → Notes → Type 0
IsKnownIn table graph marks o t steps old new =
    MatchOption old.first
    (MatchOption new.first (noted_in new.seconds ≡ []) (IsFirstOf table graph marks o t steps))
    (λ first. new.first ≡ Some first)

-- If no first noted object is known, then no object is noted.
abbrev pub IsWhole : Notes → Type 0
IsWhole notes = MatchOption notes.first (noted_in notes.seconds ≡ []) (λ first. Unit {0})

-- The invariant after `r` typed fields of an object were tested.
pub record IsMeeting (table : Table) (graph : List Obj) (old new : List ℕ) (before notes : Notes)
    (o t r steps : ℕ) : Type 0 where
  pub marks : AreMarks table graph new
  pub kept : AreKept old new
  pub noted : AreNoted table graph new notes.seconds
  pub still : AreStillNoted (noted_in before.seconds) (noted_in notes.seconds)
  pub known : IsKnownIn table graph new o t steps before notes
  pub met : AreMet table graph new (noted_in notes.seconds) o t r

-- The invariant for `r` tested fields implies the invariant for `s` tested fields.
abbrev pub Continues :
    Table → List Obj → List ℕ → List ℕ → Notes → Notes → ℕ → ℕ → ℕ → ℕ → ℕ → Type 0
Continues table graph now new notes more o t steps r s =
    (old : List ℕ) (before : Notes) → IsMeeting table graph old now before notes o t r steps
    → IsMeeting table graph old new before more o t s steps

-- ---- checked objects

-- The object is marked with the type and matches the type, and the values of all required fields of
-- the object are satisfied or noted.
pub record IsTaken (table : Table) (graph : List Obj) (marks : List ℕ) (noted : List (ℕ × ℕ))
    (o t : ℕ) : Type 0 where
  pub marked : mark_of graph marks o ≡ suc t
  pub fits : (table_shapes table).fits graph (vals.Ref o) t
  pub met : AreMet table graph marks noted o t (length (object_typed table graph o t))

-- The first `n` objects were checked, each at its type, in `steps` steps.
pub record IsScanning (table : Table) (graph : List Obj) (marks : List ℕ) (noted : List (ℕ × ℕ))
    (types : List ℕ) (n steps : ℕ) : Type 0 where
  pub valid : AreMarks table graph marks
  pub root : mark_of graph marks 0 ≡ 1
  pub many : length types ≡ n
  pub taken : (o t : ℕ) → slice_get types o ≡ Some t → IsTaken table graph marks noted o t
  pub few : steps ≤ cost_of graph types

-- The scan ends at the object for one of three reasons. The object is not marked, does not match
-- the type of its mark, or matches and has a required field that is not satisfied.
abbrev pub Stops : Table → List Obj → List ℕ → List (ℕ × ℕ) → ℕ → ScanStop → Type 0
Stops table graph marks noted o stops.Unmarked = Unit {0}
Stops table graph marks noted o stops.Mismatches =
    (t : ℕ) × (mark_of graph marks o ≡ suc t) × ¬ (table_shapes table).fits graph (vals.Ref o) t
Stops table graph marks noted o (stops.Needs t unmet) =
    (mark_of graph marks o ≡ suc t)
    × ((table_shapes table).fits graph (vals.Ref o) t × IsUnmet table graph marks noted o t unmet)

-- If the result is true, all required fields of the object are satisfied or noted, with at most one
-- step plus one for each field. If the result is false, some first field is not, and no step is
-- counted.
abbrev pub IsTried :
    Table → List Obj → List ℕ → List (ℕ × ℕ) → ℕ → ℕ → ℕ → ℕ → ScanStop → Bool → Type 0
IsTried table graph marks noted o t old new stop true =
    AreMet table graph marks noted o t (length (object_typed table graph o t))
    × (new ≤ old + 1 + length (object_typed table graph o t))
IsTried table graph marks noted o t old new stop false =
    (unmet : Unmet) × (stop ≡ stops.Needs t unmet)
    × (IsUnmet table graph marks noted o t unmet × (new ≡ old))

-- If the object matches, then `types` contains its type.
abbrev pub IsInRow : List ℕ → ℕ → ScanStop → Type 0
IsInRow types o stops.Unmarked = Unit {0}
IsInRow types o stops.Mismatches = Unit {0}
IsInRow types o (stops.Needs t unmet) = slice_get types o ≡ Some t

-- A scan without notes would have ended at `first`, which is one of the first `n` objects.
pub record IsStoppedAt (table : Table) (graph : List Obj) (marks types : List ℕ) (n : ℕ)
    (first : First) : Type 0 where
  pub before : first.object < n
  pub scanning :
      IsScanning table graph marks [] (take first.object types) first.object first.steps
  pub stops : Stops table graph marks [] first.object (stops.Needs first.ty first.unmet)
  pub row : slice_get types first.object ≡ Some first.ty

-- The notes are correct. If any object was noted, the first one was noted at one of the first `n`
-- objects.
pub record AreNotes (table : Table) (graph : List Obj) (marks types : List ℕ) (n : ℕ)
    (notes : Notes) : Type 0 where
  pub noted : AreNoted table graph marks notes.seconds
  pub first :
      MatchOption notes.first (noted_in notes.seconds ≡ [])
      (IsStoppedAt table graph marks types n)

-- The first `o` objects were checked, in `steps` steps.
pub record IsGoing (table : Table) (graph : List Obj) (marks types : List ℕ) (notes : Notes)
    (o steps : ℕ) : Type 0 where
  pub scanning :
      IsScanning table graph marks (noted_in notes.seconds) (take o types) o steps
  pub noted : AreNotes table graph marks types o notes

-- The first `o` objects were checked, and the scan ends at object `o`.
pub record IsStopped (table : Table) (graph : List Obj) (marks types : List ℕ) (notes : Notes)
    (o steps : ℕ) (stop : ScanStop) : Type 0 where
  pub scanning :
      IsScanning table graph marks (noted_in notes.seconds) (take o types) o steps
  pub noted : AreNotes table graph marks types (o + 1) notes
  pub stops : Stops table graph marks (noted_in notes.seconds) o stop
  pub row : IsInRow types o stop
