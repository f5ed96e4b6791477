-- The result of a scan.
use Rattle.std.specs.Prelude.{ℕ, ◌≡◌, ◌<◌, ◌≤◌, ◌+◌, ◌-◌, ◌++◌, List, length, Some, Result, Ok, Err}
use Rattle.std.specs.Prelude.{slice_get, sum_by, Contains, IsTrue, MatchBool}
use Rattle.base_data.specs.declared.model.out_of_memory.Memory.{Memory}
use Rattle.base_data.specs.declared.model.value.Val.{Val}
use Rattle.base_data.specs.declared.model.value.Val.TheVariants as vals
use Rattle.base_data.specs.declared.model.value.Obj.{Obj}
use Rattle.types_spec.specs.types.Fitting.{numbered_from}
use Rattle.types_spec.specs.types.StepBounds.{most_steps}
use Rattle.types_spec.specs.types.Table.{Table, table_shapes, typed_fields}
use Rattle.types_spec.specs.types.Typing.{IsListed, IsTyping}
use Rattle.marshal_heap.specs.heap.Heap.{field_at}
use Rattle.check_heap.specs.declared.scan.second_types.SecondTypes.{SecondTypes}
use Rattle.check_heap.specs.declared.scan.straight.Scanned.{Scanned}
use Rattle.check_heap.specs.declared.scan.straight.Scanned.TheVariants as answers
use Rattle.check_heap.specs.declared.scan.taken_objects.TakenObjects.{TakenObjects}
use Rattle.check_heap.specs.scan.Seconds.{noted_in, AreSeconds}
use Rattle.check_heap.specs.scan.TakenObjects.{types_in, seen_of, is_unfit_field, is_unfit_object}
use Rattle.check_heap.specs.scan.TakenObjects.{size_of}
use Rattle.check_heap.specs.scan.TakenObjects.{rest_of}

-- The required fields of an object at a type.
abbrev pub object_needs : Table → List Obj → ℕ → ℕ → List (ℕ × ℕ)
object_needs table graph o t = (table_shapes table).needs graph (vals.Ref o) t

-- The typed fields of an object at a type, by index. A field is required if the field's type
-- constrains its values.
abbrev pub object_typed : Table → List Obj → ℕ → ℕ → List (ℕ × ℕ)
object_typed table graph o t = typed_fields table graph (vals.Ref o) t

-- The type of each object, by object number. The first object has type 0, and the pairs of objects
-- and types justify one another.
pub record IsScanned (table : Table) (graph : List Obj) (types : List ℕ) : Type 0 where
  pub many : length types ≡ length graph
  pub within : (o t : ℕ) → slice_get types o ≡ Some t → t < length table.nodes
  pub root : slice_get types 0 ≡ Some 0
  pub typing : IsTyping (table_shapes table) graph (numbered_from 0 types)

-- ---- objects referenced at a second class

-- The value is found at the type. A value that is no object must match, and an object must be
-- listed at an equal type.
abbrev pub IsFoundIn : Table → List Obj → List (ℕ × ℕ) → Val → ℕ → Type 0
IsFoundIn table graph pairs (vals.Int z) t = (table_shapes table).fits graph (vals.Int z) t
IsFoundIn table graph pairs (vals.Atom tag) t = (table_shapes table).fits graph (vals.Atom tag) t
IsFoundIn table graph pairs (vals.Ref o) t = IsListed (table_shapes table) pairs (vals.Ref o) t

-- The objects with their types, followed by the noted pairs.
abbrev pub pairs_with : List ℕ → SecondTypes → List (ℕ × ℕ)
pairs_with types seconds = numbered_from 0 types ++ noted_in seconds

-- An object that is noted at a class other than the class of its type.
pub record IsNotedOver (table : Table) (graph : List Obj) (types : List ℕ) (o t : ℕ)
    : Type 0 where
  pub inside : o < length graph
  pub within : t < length table.nodes
  pub first : ℕ
  pub typed : slice_get types o ≡ Some first
  pub other : ¬ (table_shapes table).equal first t

-- Each object, by object number, matches its type. The first object has type 0. The value of each
-- required field is found at the field's type, among the types or the noted pairs.
pub record IsScannedBut (table : Table) (graph : List Obj) (types : List ℕ) (seconds : SecondTypes)
    : Type 0 where
  pub many : length types ≡ length graph
  pub within : (o t : ℕ) → slice_get types o ≡ Some t → t < length table.nodes
  pub root : slice_get types 0 ≡ Some 0
  pub fits : (o t : ℕ) → slice_get types o ≡ Some t
      → (table_shapes table).fits graph (vals.Ref o) t
  pub found :
      (o t i a : ℕ) → slice_get types o ≡ Some t → Contains (object_needs table graph o t) (i, a)
      → IsFoundIn table graph (pairs_with types seconds) (field_at graph o i) a
  pub valid : AreSeconds table seconds
  pub noted :
      (o t : ℕ) → Contains (noted_in seconds) (o, t) → IsNotedOver table graph types o t

-- ---- inconclusive scans

-- The object `o` was tested at the type `t`. If the object was checked, it was checked at an equal
-- type. If the object was found to be a mismatch, the object does not match `t`.
pub record IsSeenObject (table : Table) (graph : List Obj) (taken : TakenObjects)
    (o t : ℕ) : Type 0 where
  pub taken_at : (u : ℕ) → slice_get (types_in taken) o ≡ Some u → (table_shapes table).equal u t
  pub unfit : IsTrue (is_unfit_object taken.unfit o)
      → ¬ (table_shapes table).fits graph (vals.Ref o) t

-- Field `i` of object `o` was tested at a type. If the field's value is no object, then the value
-- matches unless the field was found to be a mismatch.
abbrev pub IsSeen : Table → List Obj → TakenObjects → ℕ → ℕ → Val → ℕ → Type 0
IsSeen table graph taken o i (vals.Int z) t =
    MatchBool (is_unfit_field taken.unfit o i) (¬ (table_shapes table).fits graph (vals.Int z) t)
    ((table_shapes table).fits graph (vals.Int z) t)
IsSeen table graph taken o i (vals.Atom tag) t =
    MatchBool (is_unfit_field taken.unfit o i) (¬ (table_shapes table).fits graph (vals.Atom tag) t)
    ((table_shapes table).fits graph (vals.Atom tag) t)
IsSeen table graph taken o i (vals.Ref p) t = IsSeenObject table graph taken p t

-- The objects that a scan checked, each at a type that the object matches. All required fields of
-- these objects were tested, except that only the first fields of the last object were tested.
pub record AreTaken (table : Table) (graph : List Obj) (taken : TakenObjects) : Type 0 where
  pub many : length (types_in taken) ≤ length graph
  pub within : (o t : ℕ) → slice_get (types_in taken) o ≡ Some t → t < length table.nodes
  pub fits : (o t : ℕ) → slice_get (types_in taken) o ≡ Some t
      → (table_shapes table).fits graph (vals.Ref o) t
  pub seen :
      (o t i a : ℕ) → slice_get (types_in taken) o ≡ Some t → i < seen_of taken o
      → Contains (object_needs table graph o t) (i, a)
      → IsSeen table graph taken o i (field_at graph o i) a

-- The meaning of a scan's result: the type of each object, possibly with noted pairs, or the types
-- of the first objects.
abbrev pub Reports : Table → List Obj → Scanned → Type 0
Reports table graph (answers.Known types) = IsScanned table graph types
Reports table graph (answers.Noted noted) =
    IsScannedBut table graph noted.taken.types noted.seconds × AreTaken table graph noted.taken
Reports table graph (answers.Stopped taken) = AreTaken table graph taken

-- The sum of one step for each object and one step for each field of the object.
abbrev pub cost_of : List Obj → List ℕ → ℕ
cost_of graph types = sum_by (λ (entry : ℕ × ℕ). 1 + size_of graph entry.0) (numbered_from 0 types)

-- The number of fields of the last checked object that were not tested.
abbrev pub left_of : List Obj → TakenObjects → ℕ
left_of graph taken = rest_of (size_of graph (taken.objects - 1)) taken.seen

-- Bounds on the steps of a scan.
--
-- - If the scan determined all types, then the steps plus one are within the bound.
-- - If the scan is inconclusive, then the steps plus the untested fields of the last object are
--   bounded by the number of checked objects and their fields.
-- - If the scan noted objects, then no step is added to the counter. The result states the steps
--   for all objects and the steps before the first note.
abbrev pub AreCounted : Table → List Obj → ℕ → ℕ → Result Scanned Memory → Type 0
AreCounted table graph old new (Ok (answers.Known types)) = new + 1 ≤ old + most_steps table graph
AreCounted table graph old new (Ok (answers.Noted noted)) =
    (new ≡ old)
    × ((noted.all ≤ cost_of graph noted.taken.types)
    × (noted.before + left_of graph noted.taken ≤ cost_of graph (types_in noted.taken)))
AreCounted table graph old new (Ok (answers.Stopped taken)) =
    new + left_of graph taken ≤ old + cost_of graph (types_in taken)
AreCounted table graph old new (Err memory) = new ≡ old
