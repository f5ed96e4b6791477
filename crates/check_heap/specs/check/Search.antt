-- The results of the search and its parts.
use Rattle.std.specs.Prelude.{ℕ, zero, suc, ◌≡◌, ◌<◌, ◌≤◌, ◌+◌, ◌-◌, ◌^◌, ◌==◌, Contains}
use Rattle.std.specs.Prelude.{if◌then◌else◌, Bool, false, List, [], ◌∷◌, ◌++◌, length, map, Option}
use Rattle.std.specs.Prelude.{Some, None, slice_get, slice_index, MatchBool, MatchOption}
use Rattle.base_data.specs.declared.model.value.Val.{Val}
use Rattle.base_data.specs.declared.model.value.Val.TheVariants as vals
use Rattle.base_data.specs.declared.model.value.Obj.{Obj}
use Rattle.base_data.specs.model.Graph.{IsValue}
use Rattle.types_spec.specs.declared.types.fault.Fault.TheVariants.{Mismatch}
use Rattle.types_spec.specs.types.Fault.{field_of}
use Rattle.types_spec.specs.types.LeastFault.{IsLeastFault}
use Rattle.types_spec.specs.types.Table.{Table, table_shapes, typed_fields}
use Rattle.marshal_heap.specs.heap.Heap as heap
use Rattle.check_heap.specs.declared.scan.taken_objects.TakenObjects.{TakenObjects}
use Rattle.check_heap.specs.scan.TakenObjects.{types_in, seen_of, size_of, rest_of}
use Rattle.check_heap.specs.scan.Scanned.{IsSeen}
use Rattle.check_heap.specs.declared.check.visits.Visit.{Visit}
use Rattle.check_heap.specs.declared.check.search.RequiredField.{RequiredField}
use Rattle.check_heap.specs.declared.check.visits.Visits.{Visits}
use Rattle.check_heap.specs.check.Visits.{listed, AreLinked, Enters}
use Rattle.check_heap.specs.check.KnownVisits.{AreOrdered, IsPathOf}
use Rattle.check_heap.specs.check.Explored.{IsExplored, root_of}

-- ---- one required field

-- The object of each visit matches the type of the visit.
abbrev pub FitAll : Table → List Obj → List Visit → Type 0
FitAll table graph all =
    (k : ℕ) (v : Visit) → slice_get all k ≡ Some v
    → (table_shapes table).fits graph (vals.Ref v.object) v.ty

-- If the value is an object, the value is visited. If the value is no object, nothing changes.
abbrev pub EntersValue : Table → List Visit → List Visit → RequiredField → Val → Type 0
EntersValue table old new need (vals.Int z) = new ≡ old
EntersValue table old new need (vals.Atom tag) = new ≡ old
EntersValue table old new need (vals.Ref o) = Enters table old new o need.ty need.parent need.step

-- If the value of the field matches, the value is visited. If the value does not match, nothing
-- changes.
pub record TestsNeed (table : Table) (graph : List Obj) (old new : List Visit)
    (need : RequiredField)
    (met : Bool) : Type 0 where
  pub value : Val
  pub valid : IsValue (length graph) value
  pub there : field_of graph (vals.Ref need.object) need.step ≡ Some value
  pub tested :
      MatchBool met
      ((table_shapes table).fits graph value need.ty × EntersValue table old new need value)
      ((¬ (table_shapes table).fits graph value need.ty) × (new ≡ old))

-- ---- one visit

-- The path to visit `n`, extended by the field `step`, is the first fault.
pub record IsMismatchAt (table : Table) (graph : List Obj) (all : List Visit) (n step : ℕ)
    : Type 0 where
  pub in_range : n < length all
  pub ordered : AreOrdered all
  pub least :
      (path : List ℕ) → IsPathOf all n path
      → IsLeastFault (table_shapes table) graph (vals.Ref (root_of all)) 0
      (Mismatch (path ++ step ∷ []))

pub record GrowsVisits (old new : List Visit) : Type 0 where
  pub added : List Visit
  pub extends : new ≡ old ++ added

-- All required fields among the first `r` fields of visit `n` are tested.
pub record IsTesting (table : Table) (graph : List Obj) (old now : List Visit) (n r : ℕ)
    : Type 0 where
  pub grows : GrowsVisits old now
  pub explored : IsExplored table graph now n r

-- All required fields of visit `n` are tested, up to the first mismatch.
pub record TestsVisit (table : Table) (graph : List Obj) (old new : List Visit) (n : ℕ)
    (mismatch : Option ℕ) : Type 0 where
  pub grows : GrowsVisits old new
  pub tested : MatchOption mismatch (IsExplored table graph new (suc n) 0)
      (IsMismatchAt table graph new n)

-- The required fields of a visit's object at its type.
abbrev pub visit_needs : Table → List Obj → Visit → List (ℕ × ℕ)
visit_needs table graph v = (table_shapes table).needs graph (vals.Ref v.object) v.ty

-- The fields of a visit's object that have types at the visit's type, in order.
abbrev pub visit_fields : Table → List Obj → Visit → List (ℕ × ℕ)
visit_fields table graph v = typed_fields table graph (vals.Ref v.object) v.ty

-- A scan has tested the required fields below number `seen` of the visit's object.
abbrev pub AreSeen : Table → List Obj → TakenObjects → Visit → ℕ → Type 0
AreSeen table graph taken v seen =
    (i a : ℕ) → i < seen → Contains (visit_needs table graph v) (i, a)
    → IsSeen table graph taken v.object i (heap.field_at graph v.object i) a

-- The type `t` has the class of the given type, if a type is given.
abbrev pub is_of_class : Table → Option ℕ → ℕ → Bool
is_of_class table None t = false
is_of_class table (Some u) t = slice_index table.classes u == slice_index table.classes t

-- A scan has checked the visit's object at an equal type.
abbrev pub is_taken : Table → TakenObjects → Visit → Bool
is_taken table taken v = is_of_class table (slice_get (types_in taken) v.object) v.ty

-- The number of steps of a visit. If a scan has checked the object, one step for each field that
-- the scan did not test. If not, one step for the visit and one for each field.
abbrev pub counted : Table → List Obj → TakenObjects → Visit → ℕ
counted table graph taken v =
    if is_taken table taken v then rest_of (size_of graph v.object) (seen_of taken v.object)
    else 1 + size_of graph v.object

abbrev pub cost_or_none : Table → List Obj → TakenObjects → Option Visit → ℕ
cost_or_none table graph taken None = 0
cost_or_none table graph taken (Some v) = counted table graph taken v

abbrev pub cost_at : Table → List Obj → TakenObjects → List Visit → ℕ → ℕ
cost_at table graph taken all n = cost_or_none table graph taken (slice_get all n)

-- ---- all visits

-- All required fields of each visit are tested, up to the first mismatch.
pub record SearchesVisits (table : Table) (graph : List Obj) (old new : List Visit)
    (mismatch : Option (ℕ × ℕ)) : Type 0 where
  pub grows : GrowsVisits old new
  pub tested : MatchOption mismatch (IsExplored table graph new (length new) 0)
      (λ at. IsMismatchAt table graph new at.0 at.1)

-- The number of steps of the first `n` visits.
abbrev pub spent : Table → List Obj → TakenObjects → List Visit → ℕ → ℕ
spent table graph taken [] n = 0
spent table graph taken (v ∷ all) zero = 0
spent table graph taken (v ∷ all) (suc n) =
    counted table graph taken v + spent table graph taken all n

-- The visits as pairs of an object and a type.
abbrev pub pairs_of : List Visit → List (ℕ × ℕ)
pairs_of all = map (λ (v : Visit). (v.object, v.ty)) all

-- ---- loops

-- The first `r` fields with types of visit `n` are tested, up to the fields below `reached`. Each
-- field that no scan has tested takes one step.
pub record IsTestingVisit (table : Table) (graph : List Obj) (old now : Visits) (v : Visit)
    (n r seen start steps : ℕ) : Type 0 where
  pub linked : AreLinked table (length graph) now
  pub testing : IsTesting table graph (listed old) (listed now) n r
  pub reached : ℕ
  pub inside : reached ≤ size_of graph v.object
  pub small : reached < 2 ^ 64
  pub later : (j i a : ℕ) → r ≤ j → slice_get (visit_fields table graph v) j ≡ Some (i, a)
      → reached ≤ i
  pub few : steps ≤ start + (reached - seen)

-- The required fields of the first `n` visits are tested, within the bound on the steps.
pub record IsSearching (table : Table) (graph : List Obj) (taken : TakenObjects) (old now : Visits)
    (n start steps : ℕ) : Type 0 where
  pub linked : AreLinked table (length graph) now
  pub grows : GrowsVisits (listed old) (listed now)
  pub explored : IsExplored table graph (listed now) n 0
  pub within : n ≤ length (listed now)
  pub few : steps ≤ start + spent table graph taken (listed now) n
