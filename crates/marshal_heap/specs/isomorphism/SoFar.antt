-- The state of the comparison of two values after some pairs of objects were compared.
use Rattle.std.specs.Prelude.{ℕ, ◌<◌, ◌≡◌, List, Some, slice_get}
use Rattle.base_data.specs.declared.model.value.Val.{Val}
use Rattle.base_data.specs.declared.model.value.Obj.{Obj}
use Rattle.marshal_spec.specs.format.Isomorphism.{Agree, AgreeObjects, IsPairing}
use Rattle.marshal_heap.specs.heap.Heap.{object_at}
use Rattle.marshal_heap.specs.isomorphism.Meeting.{AreAmong}

-- The values `v` and `w` agree under the pairs, and the objects of the first `n` pairs agree. Each
-- pairing that makes `v` and `w` isomorphic contains all the pairs.
pub record IsSoFar (g : List Obj) (v : Val) (h : List Obj) (w : Val) (pairs : List (ℕ × ℕ)) (n : ℕ)
    : Type 0 where
  pub root : Agree pairs v w
  pub done : (i k l : ℕ) → i < n → slice_get pairs i ≡ Some (k, l)
      → AgreeObjects pairs (object_at g k) (object_at h l)
  pub needed : (all : List (ℕ × ℕ)) → IsPairing g h all → Agree all v w → AreAmong pairs all
