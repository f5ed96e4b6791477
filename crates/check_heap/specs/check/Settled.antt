-- The state while the objects that a scan recorded at second classes are settled.
use Rattle.std.specs.Prelude.{ℕ, ◌≡◌, ◌<◌, ◌≤◌, ◌+◌, List, ◌++◌, length, take, Some, slice_get}
use Rattle.std.specs.Prelude.{sum_by, Contains, IsTrue}
use Rattle.base_data.specs.declared.model.value.Val.{Val}
use Rattle.base_data.specs.declared.model.value.Val.TheVariants as vals
use Rattle.base_data.specs.declared.model.value.Obj.{Obj}
use Rattle.types_spec.specs.types.Table.{Table, table_shapes, is_asked_in}
use Rattle.marshal_heap.specs.heap.Heap.{field_at}
use Rattle.check_heap.specs.declared.scan.second_types.SecondTypes.{SecondTypes}
use Rattle.check_heap.specs.scan.Paths.{HasPath}
use Rattle.check_heap.specs.scan.Seconds.{noted_in}
use Rattle.check_heap.specs.scan.TakenObjects.{size_of}
use Rattle.check_heap.specs.scan.Scanned.{object_needs, object_typed, IsFoundIn, pairs_with}
use Rattle.check_heap.specs.scan.Scanned.{IsScannedBut}

-- The types of the objects are correct except for the recorded pairs, and paths lead to the
-- recorded pairs.
pub record AreOver (table : Table) (graph : List Obj) (types : List ℕ) (seconds : SecondTypes)
    : Type 0 where
  pub scanned : IsScannedBut table graph types seconds
  pub paths : (o t : ℕ) → Contains (noted_in seconds) (o, t) → HasPath table graph (vals.Ref 0) o t

-- The object matches the type's representation, and all required fields of the object are found.
-- The object is mutable neither at the type `t` nor at its first type.
pub record IsSettledAt (table : Table) (graph : List Obj) (types : List ℕ) (seconds : SecondTypes)
    (o t : ℕ) : Type 0 where
  pub fits : (table_shapes table).fits graph (vals.Ref o) t
  pub found :
      (i a : ℕ) → Contains (object_needs table graph o t) (i, a)
      → IsFoundIn table graph (pairs_with types seconds) (field_at graph o i) a
  pub here : ¬ (table_shapes table).mutable graph o t
  pub first : (u : ℕ) → slice_get types o ≡ Some u → ¬ (table_shapes table).mutable graph o u

-- The first `n` recorded pairs are settled.
pub record IsSettling (table : Table) (graph : List Obj) (types : List ℕ) (seconds : SecondTypes)
    (n : ℕ) : Type 0 where
  pub over : AreOver table graph types seconds
  pub within : n ≤ length (noted_in seconds)
  pub settled : (k o t : ℕ) → k < n → slice_get (noted_in seconds) k ≡ Some (o, t)
      → IsSettledAt table graph types seconds o t

pub record Extends (old new : List (ℕ × ℕ)) : Type 0 where
  pub added : List (ℕ × ℕ)
  pub is : new ≡ old ++ added

-- The value is found at the type, after further pairs may have been recorded.
pub record FindsValue (table : Table) (graph : List Obj) (types : List ℕ) (old new : SecondTypes)
    (v : Val)
    (t : ℕ) : Type 0 where
  pub over : AreOver table graph types new
  pub extends : Extends (noted_in old) (noted_in new)
  pub found : IsFoundIn table graph (pairs_with types new) v t

-- All required fields among the first `r` typed fields of an object are found, after further pairs
-- may have been recorded.
pub record FindsNeeds (table : Table) (graph : List Obj) (types : List ℕ) (old new : SecondTypes)
    (o t r : ℕ) : Type 0 where
  pub over : AreOver table graph types new
  pub extends : Extends (noted_in old) (noted_in new)
  pub found :
      (j i a : ℕ) → j < r → slice_get (object_typed table graph o t) j ≡ Some (i, a)
      → IsTrue (is_asked_in table a)
      → IsFoundIn table graph (pairs_with types new) (field_at graph o i) a

-- Pair `n` is settled like the pairs before, after further pairs may have been recorded.
pub record Settles (table : Table) (graph : List Obj) (types : List ℕ) (old new : SecondTypes)
    (n : ℕ)
    : Type 0 where
  pub settling : IsSettling table graph types new (n + 1)
  pub extends : Extends (noted_in old) (noted_in new)

-- The sum of one step for each pair and one step for each field of the pair's object.
abbrev pub cost_of_pairs : List Obj → List (ℕ × ℕ) → ℕ
cost_of_pairs graph pairs = sum_by (λ (pair : ℕ × ℕ). 1 + size_of graph pair.0) pairs

-- The first `n` pairs are settled, within the bound on the steps.
pub record IsCounting (table : Table) (graph : List Obj) (types : List ℕ) (seconds : SecondTypes)
    (n start steps : ℕ) : Type 0 where
  pub settling : IsSettling table graph types seconds n
  pub few : steps ≤ start + cost_of_pairs graph (take n (noted_in seconds))

-- All recorded pairs are settled.
abbrev pub IsSettled : Table → List Obj → List ℕ → SecondTypes → Type 0
IsSettled table graph types seconds =
    IsSettling table graph types seconds (length (noted_in seconds))
