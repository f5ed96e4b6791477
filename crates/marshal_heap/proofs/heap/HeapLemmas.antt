-- Lemmas on graphs to which objects are appended, in which one object is replaced, and whose last
-- objects are removed.
use Rattle.std.proofs.Common.{◌≡◌, ℕ, ◌+◌, ◌^◌, ◌<◌, ◌≤◌, List, length, set, take, refl, sym, ap, subst, arith, length-set}
use Rattle.std.specs.Prelude.{All, pos}
use Rattle.std.proofs.lemmas.List.Elements.{All-set, All-take, All-weaker}
use Rattle.std.proofs.lemmas.List.Sums.{sum_by-set, sum_by-take-le}
use Rattle.base_data.specs.declared.model.value.Val.{Val}
use Rattle.base_data.specs.declared.model.value.Val.TheVariants as vals
use Rattle.base_data.specs.declared.model.value.Obj.{Obj}
use Rattle.base_data.specs.declared.model.value.Obj.TheVariants as objects
use Rattle.base_data.specs.model.Graph.{IsValue, IsObject, IsGraph}
use Rattle.marshal_heap.specs.heap.Heap.{object_at, with_field, with_byte, with_double, object_words, heap_words, IsSmall, IsHeap}

-- If a value is valid among `m` objects and `m` is at most `n`, then the value is valid among `n`
-- objects.
pub IsValue-more : (m n : ℕ) (v : Val) → m ≤ n → IsValue m v → IsValue n v
IsValue-more m n (vals.Int z) more valid = valid
IsValue-more m n (vals.Atom tag) more valid = valid
IsValue-more m n (vals.Ref k) more valid = omega arith

pub IsObject-more : (m n : ℕ) (object : Obj) → m ≤ n → IsObject m object → IsObject n object
IsObject-more m n (objects.Block tag values) more valid =
    (valid.0, valid.1, All-weaker (IsValue m) (IsValue n) (λ v h. IsValue-more m n v more h) values valid.2)
IsObject-more m n object more valid = valid

-- The object `new` can replace the object `old`: `new` is valid and has as many words as `old`.
pub record Replaces (n : ℕ) (old new : Obj) : Type 0 where
  pub valid : IsObject n new
  pub words : object_words new ≡ object_words old

pub Replaces-with_field : (n i : ℕ) (v : Val) → IsValue n v → (object : Obj) → IsObject n object → Replaces n object (with_field object i v)
Replaces-with_field n i v fits (objects.Block tag values) valid = record {
  valid = (valid.0, subst (λ k. 0 < k) (sym (length-set values i v)) valid.1, All-set (IsValue n) values i v fits valid.2);
  words = ap (λ k. 1 + k) (length-set values i v);
}
Replaces-with_field n i v fits object valid = record { valid = valid; words = refl }

pub Replaces-with_byte : (n i b : ℕ) → b < 256 → (object : Obj) → IsObject n object → Replaces n object (with_byte object i b)
Replaces-with_byte n i b fits (objects.Bytes bytes) valid = record {
  valid = All-set (λ b. b < 256) bytes i b fits valid;
  words = simp length-set;
}
Replaces-with_byte n i b fits object valid = record { valid = valid; words = refl }

pub Replaces-with_double : (n i bits : ℕ) → bits < 2 ^ 64 → (object : Obj) → IsObject n object → Replaces n object (with_double object i bits)
Replaces-with_double n i bits fits (objects.Double old) valid = record { valid = fits; words = refl }
Replaces-with_double n i bits fits (objects.Doubles all) valid = record {
  valid = (subst (λ k. 0 < k) (sym (length-set all i bits)) valid.0, All-set (λ bits. bits < 2 ^ 64) all i bits fits valid.1);
  words = ap (λ k. 1 + k) (length-set all i bits);
}
Replaces-with_double n i bits fits object valid = record { valid = valid; words = refl }

module _ (graph : List Obj) (o : ℕ) (new : Obj) (in_range : o < length graph) (replaces : Replaces (length graph) (object_at graph o) new) where
  pub heap_words-set : heap_words (set graph o new) ≡ heap_words graph
  heap_words-set = omega (arith, sum_by-set object_words graph o new (objects.I32 (pos 0)) in_range, replaces.words)

  pub IsHeap-set : IsHeap graph → IsHeap (set graph o new)
  IsHeap-set heap = record {
    is_graph = subst (λ n. All (IsObject n) (set graph o new)) (sym (length-set graph o new)) (All-set (IsObject (length graph)) graph o new replaces.valid heap.is_graph);
    small = All-set IsSmall graph o new (subst (λ k. k < 2 ^ 54) (sym replaces.words) (heap.small o _ in_range)) heap.small;
    words = subst (λ k. k < 2 ^ 60) (sym heap_words-set) heap.words;
  }

-- If the first `n` objects of a heap refer only to each other, then the first `n` objects are a
-- heap.
pub IsHeap-take : (n : ℕ) (graph : List Obj) → IsGraph (take n graph) → IsHeap graph → IsHeap (take n graph)
IsHeap-take n graph closed heap = record {
  is_graph = closed;
  small = All-take IsSmall n graph heap.small;
  words = omega (arith, sum_by-take-le object_words graph n, heap.words);
}
