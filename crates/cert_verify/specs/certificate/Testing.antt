-- The properties that hold while pairs are verified.
use Rattle.std.specs.Prelude.{ℕ, ◌≡◌, ◌<◌, ◌≤◌, ◌+◌, List, length, IsTrue, IsSomeAnd, Some}
use Rattle.std.specs.Prelude.{Contains, slice_get}
use Rattle.std.specs.BTreeSet.{BTreeSet, contains}
use Rattle.std.specs.Ordering.{nat_cmp, ordering_then}
use Rattle.std.specs.declared.cmp.Ordering.{Ordering}
use Rattle.base_data.specs.declared.model.value.Val.TheVariants as vals
use Rattle.base_data.specs.declared.model.value.Obj.{Obj}
use Rattle.marshal_heap.specs.heap.Heap.{word_of}
use Rattle.types_spec.specs.types.Fault.{IsLexicallyBefore}
use Rattle.types_spec.specs.types.Table.{Table, table_shapes, is_asked_in}
use Rattle.types_spec.specs.types.Typing.{field_at, IsHeld}
use Rattle.cert_verify.specs.declared.certificate.verified.Why.{Why}
use Rattle.cert_verify.specs.declared.certificate.verified.Why.TheVariants.{Range, Unfit, Need}
use Rattle.cert_verify.specs.declared.certificate.verified.Why.TheVariants.{TwoTypes, Root}
use Rattle.cert_verify.specs.declared.certificate.verified.Why.TheVariants.{NotFault}
use Rattle.cert_verify.specs.certificate.Verified.{IsThere, LacksNeed, IsAtTwoTypes, position_of}

-- ---- all pairs

abbrev pub IsThereNow : Table → List Obj → ℕ × ℕ → Type 0
IsThereNow table graph pair = IsThere table graph pair

-- The objects and types of the first `n` pairs exist.
abbrev pub AreThere : Table → List Obj → List (ℕ × ℕ) → ℕ → Type 0
AreThere table graph pairs n =
    (k : ℕ) (pair : ℕ × ℕ) → k < n → slice_get pairs k ≡ Some pair → IsThere table graph pair

-- The objects and types of all pairs exist.
abbrev pub AreAllThere : Table → List Obj → List (ℕ × ℕ) → Type 0
AreAllThere table graph pairs =
    (k : ℕ) (pair : ℕ × ℕ) → slice_get pairs k ≡ Some pair → IsThere table graph pair

-- Pair `i` is the first pair whose object or type does not exist.
pub record IsFirstOut (table : Table) (graph : List Obj) (pairs : List (ℕ × ℕ))
    (i : ℕ) : Type 0 where
  pub out : IsSomeAnd (slice_get pairs i) (λ pair. ¬ IsThere table graph pair)
  pub before : AreThere table graph pairs i

-- ---- the pairs of an object

-- The pairs before index `position` have lesser objects than `object`. The pairs from the index on
-- do not.
pub record IsStart (pairs : List (ℕ × ℕ)) (object position : ℕ) : Type 0 where
  pub within : position ≤ length pairs
  pub smaller : (k : ℕ) (pair : ℕ × ℕ) → k < position → slice_get pairs k ≡ Some pair
      → pair.0 < object
  pub others : (k : ℕ) (pair : ℕ × ℕ) → position ≤ k → slice_get pairs k ≡ Some pair
      → object ≤ pair.0

-- The index of the first pair that is not before `object` is at least `low` and at most `high`.
pub record IsBetween (pairs : List (ℕ × ℕ)) (object low high : ℕ) : Type 0 where
  pub order : low ≤ high
  pub within : high ≤ length pairs
  pub smaller : (k : ℕ) (pair : ℕ × ℕ) → k < low → slice_get pairs k ≡ Some pair → pair.0 < object
  pub others : (k : ℕ) (pair : ℕ × ℕ) → high ≤ k → slice_get pairs k ≡ Some pair → object ≤ pair.0

-- The object's pairs before index `position` have no type that satisfies `Is`. The pairs from the
-- index on have objects that are at least `object`.
pub record IsPassing (pairs : List (ℕ × ℕ)) (object position : ℕ) (Is : ℕ → Type 0) : Type 0 where
  pub within : position ≤ length pairs
  pub none : (k t : ℕ) → k < position → slice_get pairs k ≡ Some (object, t) → ¬ Is t
  pub others : (k : ℕ) (pair : ℕ × ℕ) → position ≤ k → slice_get pairs k ≡ Some pair
      → object ≤ pair.0

-- Two types are equal.
abbrev pub IsSame : Table → ℕ → ℕ → Type 0
IsSame table t u = (table_shapes table).equal t u

-- Some pair has the object at an equal type.
abbrev pub IsAmongAt : Table → List (ℕ × ℕ) → ℕ → ℕ → Type 0
IsAmongAt table pairs o t = (u : ℕ) × Contains pairs (o, u) × (table_shapes table).equal u t

-- Some pair has the object of the word at an equal type.
pub record StandsAt (table : Table) (graph : List Obj) (pairs : List (ℕ × ℕ)) (word t : ℕ)
    : Type 0 where
  pub object : ℕ
  pub inside : object < length graph
  pub named : word ≡ word_of graph (vals.Ref object)
  pub among : IsAmongAt table pairs object t

-- Some pair has the object at an unequal type.
abbrev pub IsElsewhere : Table → List (ℕ × ℕ) → ℕ → ℕ → Type 0
IsElsewhere table pairs o t = (u : ℕ) × Contains pairs (o, u) × (¬ (table_shapes table).equal t u)

-- Pairs of an object and a class are ordered by object, then by class.
abbrev pub pair_cmp : ℕ × ℕ → ℕ × ℕ → Ordering
pair_cmp x y = ordering_then (nat_cmp x.0 y.0) (nat_cmp x.1 y.1)

-- Each element of the set is the object and the class of a pair. The set contains each pair before
-- index `position` that is preceded by 16 pairs of its object.
pub record AreCrowded (table : Table) (pairs : List (ℕ × ℕ)) (position : ℕ)
    (Has : ℕ → ℕ → Type 0) : Type 0 where
  pub some :
      (o c : ℕ) → Has o c → (t : ℕ) × Contains pairs (o, t) × (slice_get table.classes t ≡ Some c)
  pub all :
      (k o s t c : ℕ) → k + 16 < position → slice_get pairs k ≡ Some (o, s)
      → slice_get pairs (k + 16) ≡ Some (o, t)
      → slice_get table.classes t ≡ Some c → Has o c

-- The object and the class are an element of the set.
abbrev pub is_in : BTreeSet (ℕ × ℕ) → ℕ → ℕ → Type 0
is_in frequent o c = IsTrue (contains pair_cmp frequent (o, c))

abbrev pub IsFrequent : Table → List (ℕ × ℕ) → BTreeSet (ℕ × ℕ) → Type 0
IsFrequent table pairs frequent = AreCrowded table pairs (length pairs) (is_in frequent)

-- If the pair before pair `i` has the same object at an equal type, then no pair has that object at
-- an unequal type.
abbrev pub IsSettled : Table → List (ℕ × ℕ) → ℕ → Type 0
IsSettled table pairs i =
    (j o s t : ℕ) → j + 1 ≡ i → slice_get pairs j ≡ Some (o, s) → slice_get pairs i ≡ Some (o, t)
    → (table_shapes table).equal s t → ¬ IsElsewhere table pairs o s

-- ---- one pair

-- The required field is held at its type.
abbrev pub HoldsNeed : Table → List Obj → List (ℕ × ℕ) → ℕ → ℕ × ℕ → Type 0
HoldsNeed table graph pairs o need =
    IsSomeAnd (field_at graph o need.0) (λ v. IsHeld (table_shapes table) graph pairs v need.1)

-- The object holds all required fields at the type.
abbrev pub HoldsAll : Table → List Obj → List (ℕ × ℕ) → ℕ → ℕ → Type 0
HoldsAll table graph pairs o t =
    (i a : ℕ) → Contains ((table_shapes table).needs graph (vals.Ref o) t) (i, a)
    → HoldsNeed table graph pairs o (i, a)

-- Among the first `n` typed fields of an object, each field whose type is not a wildcard is held.
abbrev pub HoldsFirst : Table → List Obj → List (ℕ × ℕ) → ℕ → List (ℕ × ℕ) → ℕ → Type 0
HoldsFirst table graph pairs o needs n =
    (j i a : ℕ) → j < n → slice_get needs j ≡ Some (i, a) → IsTrue (is_asked_in table a)
    → HoldsNeed table graph pairs o (i, a)

-- `field` is the first required field that is not held.
pub record IsFirstMissing (table : Table) (graph : List Obj) (pairs : List (ℕ × ℕ))
    (o t field : ℕ) : Type 0 where
  pub lacks : LacksNeed table graph pairs (o, t) field
  pub first :
      (i a : ℕ) → i < field → Contains ((table_shapes table).needs graph (vals.Ref o) t) (i, a)
      → HoldsNeed table graph pairs o (i, a)

-- The faults of a pair on its own.
abbrev pub IsWrongWith : Table → List Obj → List (ℕ × ℕ) → ℕ → Why → Type 0
IsWrongWith table graph pairs i (Range j) = ⊥
IsWrongWith table graph pairs i (Unfit j) =
    (j ≡ i) × IsSomeAnd (slice_get pairs i)
    (λ pair. ¬ (table_shapes table).fits graph (vals.Ref pair.0) pair.1)
IsWrongWith table graph pairs i (Need j field) =
    (j ≡ i) × IsSomeAnd (slice_get pairs i) (λ pair. LacksNeed table graph pairs pair field)
IsWrongWith table graph pairs i (TwoTypes j) =
    (j ≡ i) × IsSomeAnd (slice_get pairs i) (λ pair. IsAtTwoTypes table graph pairs pair)
IsWrongWith table graph pairs i Root = ⊥
IsWrongWith table graph pairs i NotFault = ⊥

-- The pair fits, holds all required fields and, if it is mutable, is at one type.
pub record IsRight (table : Table) (graph : List Obj) (pairs : List (ℕ × ℕ))
    (pair : ℕ × ℕ) : Type 0 where
  pub fits : (table_shapes table).fits graph (vals.Ref pair.0) pair.1
  pub holds : HoldsAll table graph pairs pair.0 pair.1
  pub one_type :
      (u : ℕ) → Contains pairs (pair.0, u) → (table_shapes table).mutable graph pair.0 pair.1
      → (table_shapes table).equal pair.1 u

-- Pair `i` is right.
abbrev pub IsRightAt : Table → List Obj → List (ℕ × ℕ) → ℕ → Type 0
IsRightAt table graph pairs i =
    (pair : ℕ × ℕ) → slice_get pairs i ≡ Some pair → IsRight table graph pairs pair

-- `why` is the first fault of pair `i`.
pub record IsFirstAt (table : Table) (graph : List Obj) (pairs : List (ℕ × ℕ)) (i : ℕ)
    (why : Why) : Type 0 where
  pub is : IsWrongWith table graph pairs i why
  pub first :
      (other : Why) → IsWrongWith table graph pairs i other
      → ¬ IsLexicallyBefore (position_of other) (position_of why)

-- The first `n` pairs are right.
abbrev pub AreRight : Table → List Obj → List (ℕ × ℕ) → ℕ → Type 0
AreRight table graph pairs n = (k : ℕ) → k < n → IsRightAt table graph pairs k
