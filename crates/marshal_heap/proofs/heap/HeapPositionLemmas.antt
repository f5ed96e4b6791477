-- Lemmas on the offsets of headers: the offsets increase, and distinct objects have distinct
-- offsets.
use Rattle.std.proofs.Common.{◌≡◌, ℕ, zero, suc, ◌+◌, ◌<◌, ◌≤◌, List, [], ◌∷◌, ◌++◌, length, set, take, refl, ap, subst, inl, inr, arith, take-take, take_all}
use Rattle.std.specs.Prelude.{pos}
use Rattle.std.proofs.lemmas.List.{take-append-le}
use Rattle.std.proofs.lemmas.Bool.{cases_order}
use Rattle.std.proofs.lemmas.List.Sums.{sum_by-cons, sum_by_more, sum_by-take-le}
use Rattle.base_data.specs.declared.model.value.Obj.{Obj}
use Rattle.base_data.specs.declared.model.value.Obj.TheVariants as objects
use Rattle.base_data.specs.model.Graph.{IsObject, IsGraph}
use Rattle.marshal_heap.specs.heap.Heap.{object_at, object_words, heap_words, position}

pub position_is : (graph : List Obj) (k : ℕ) → position graph k ≡ heap_words (take k graph)
unfolding position
position_is graph k = refl

-- If objects are appended, then earlier objects keep their offsets.
pub position-append : (graph more : List Obj) (k : ℕ) → k ≤ length graph → position (graph ++ more) k ≡ position graph k
unfolding position
position-append graph more k inside = ap heap_words (take-append-le k graph more inside)

-- The offset after all objects is the number of words of the graph.
pub position-all : (graph : List Obj) → position graph (length graph) ≡ heap_words graph
unfolding position
position-all graph = ap heap_words (take_all (length graph) graph (omega arith))

pub position-zero : (graph : List Obj) → position graph 0 ≡ 0
unfolding position
position-zero graph = refl

pub position-next : (graph : List Obj) (k : ℕ) → k < length graph → position graph (k + 1) ≡ position graph k + object_words (object_at graph k)
unfolding position
position-next graph k inside = sum_by_more object_words graph k (objects.I32 (pos 0)) inside

-- If an object is replaced by an object with as many words, then all offsets stay the same.
pub position-set : (graph : List Obj) (o k : ℕ) (new : Obj) → object_words new ≡ object_words (object_at graph o) → position (set graph o new) k ≡ position graph k
unfolding position
position-set [] o k new same = refl
position-set (x ∷ graph) zero zero new same = refl
position-set (x ∷ graph) zero (suc k) new same = omega (arith, sum_by-cons object_words new (take k graph), sum_by-cons object_words x (take k graph), same)
position-set (x ∷ graph) (suc o) zero new same = refl
position-set (x ∷ graph) (suc o) (suc k) new same =
    omega (arith, sum_by-cons object_words x (take k (set graph o new)), sum_by-cons object_words x (take k graph), position-set graph o k new same)

-- Each object has at least two words.
pub two_words : (n : ℕ) (object : Obj) → IsObject n object → 2 ≤ object_words object
two_words n (objects.Block tag values) valid = omega (arith, valid.1)
two_words n (objects.Bytes bytes) valid = omega arith
two_words n (objects.Double bits) valid = omega arith
two_words n (objects.Doubles all) valid = omega (arith, valid.0)
two_words n (objects.I32 z) valid = omega arith
two_words n (objects.I64 z) valid = omega arith
two_words n (objects.Native z) valid = omega arith

pub position_le : (graph : List Obj) (k m : ℕ) → k ≤ m → position graph k ≤ position graph m
unfolding position
position_le graph k m before = subst (λ (n : ℕ). n ≤ heap_words (take m graph)) (ap heap_words (take-take k m graph before)) (sum_by-take-le object_words (take m graph) k)

pub position_grows : (graph : List Obj) (k m : ℕ) → IsGraph graph → k < m → k < length graph → position graph k + 2 ≤ position graph m
position_grows graph k m valid before inside =
    omega (arith, position-next graph k inside, two_words (length graph) (object_at graph k) (valid k (objects.I32 (pos 0)) inside), position_le graph (k + 1) m (omega arith))

-- If two objects have the same offset or the same key, then the two objects are the same object.
pub same_from_position : (graph : List Obj) (k m : ℕ) → IsGraph graph → k < length graph → m < length graph → position graph k ≡ position graph m → k ≡ m
same_from_position graph k m valid k_inside m_inside same = elim (cases_order k m) [
  | inl e ↦ e
  | inr s ↦ elim s [
    | inl less ↦ absurd (omega (arith, position_grows graph k m valid less k_inside))
    | inr more ↦ absurd (omega (arith, position_grows graph m k valid more m_inside))
  ]
]

-- All words of each object are within the words of the graph.
pub position_inside : (graph : List Obj) (k : ℕ) → IsGraph graph → k < length graph → position graph k + object_words (object_at graph k) ≤ heap_words graph
position_inside graph k valid inside = omega (arith, position-next graph k inside, position_le graph (k + 1) (length graph) (omega arith), position-all graph)
