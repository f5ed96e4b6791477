-- Lemmas on the fields of a `Heap`: the words of a graph determine the graph.
use Rattle.std.proofs.Common.{◌≡◌, ℕ, ◌+◌, ◌/◌, ◌%◌, ◌<◌, ◌≤◌, eqb, cond, ℤ, pos, negsuc, List, [], length, get_or, take, drop, map, refl, sym, ap, ap₂, subst, ◌∙◌, arith, eq-eqb, ne_eqb}
use Rattle.std.specs.List.{position_or_len}
use Rattle.std.proofs.lemmas.Bool.{cond-false}
use Rattle.std.proofs.lemmas.List.{length-map, get_or-map, get_or_default, same_lists}
use Rattle.std.proofs.lemmas.List.Elements.{All-nil, All-weaker}
use Rattle.std.proofs.lemmas.List.FromFn.{length-map-range_with_len, get_or-map-range_with_len}
use Rattle.std.proofs.lemmas.List.Sums.{position_or_len_is}
use Rattle.base_data.specs.declared.model.value.Obj.{Obj}
use Rattle.base_data.specs.declared.model.value.Obj.TheVariants as objects
use Rattle.base_data.specs.model.Graph.{IsSigned, IsValue, IsObject, IsGraph}
use Rattle.marshal_heap.specs.heap.Heap.{object_at, position, word_with, IsSmall, IsHeap}
use Rattle.marshal_heap.specs.heap.Stored.{encode, positions_of, value_from, object_from, object_in, decode, IsStored}
use Rattle.marshal_heap.specs.heap.ObjectWords.{tag_of, header, body_with}
use Rattle.marshal_heap.proofs.heap.HeapPositionLemmas.{same_from_position, two_words}
use Rattle.marshal_heap.proofs.heap.WordLemmas.{map_back, value_back, signed_back}
use Rattle.marshal_heap.proofs.heap.HeapStringLemmas.{bytes_back}
use Rattle.marshal_heap.proofs.heap.CodeLemmas.{word_in, body_in}

-- A graph has one header offset for each object.
pub length-positions_of : (graph : List Obj) → length (positions_of graph) ≡ length graph
unfolding positions_of
length-positions_of graph = length-map-range_with_len (position graph) 0 (length graph)

pub get_or-positions_of : (graph : List Obj) (k d : ℕ) → k < length graph → get_or (positions_of graph) k d ≡ position graph k
unfolding positions_of
get_or-positions_of graph k d inside = get_or-map-range_with_len (position graph) 0 (length graph) k k d inside (omega arith)

pub numbered : (graph : List Obj) → IsGraph graph → (k : ℕ) → k < length graph → position_or_len (λ p. eqb p (position graph k)) (positions_of graph) ≡ k
numbered graph valid k inside =
    position_or_len_is (λ p. eqb p (position graph k)) (positions_of graph) k 0 (omega (arith, length-positions_of graph))
    (λ j before. ne_eqb (get_or (positions_of graph) j 0) (position graph k) (λ e.
    let same : j ≡ k = same_from_position graph j k valid (omega arith) inside (sym (get_or-positions_of graph j 0 (omega arith)) ∙ e) in omega arith))
    (λ inside'. eq-eqb (get_or (positions_of graph) k 0) (position graph k) (get_or-positions_of graph k 0 inside))

pub tag_small : (n : ℕ) (object : Obj) → IsObject n object → tag_of object < 256
tag_small n (objects.Block tag values) valid = omega (arith, valid.0)
tag_small n (objects.Bytes bytes) valid = omega arith
tag_small n (objects.Double bits) valid = omega arith
tag_small n (objects.Doubles all) valid = omega arith
tag_small n (objects.I32 z) valid = omega arith
tag_small n (objects.I64 z) valid = omega arith
tag_small n (objects.Native z) valid = omega arith

pub wider : (z : ℤ) → IsSigned 31 z → IsSigned 63 z
wider (pos n) small = omega arith
wider (negsuc n) small = omega arith

-- A tag up to 243 differs from the tags of strings, doubles and custom blocks.
pub other_tags : {X : Type 0} (tag : ℕ) (a b c d e : X) → tag ≤ 243 → cond (eqb tag 252) a (cond (eqb tag 253) b (cond (eqb tag 254) c (cond (eqb tag 255) d e))) ≡ e
other_tags tag a b c d e small =
    cond-false (eqb tag 252) _ _ (ne_eqb tag 252 (λ h. omega arith))
    ∙ cond-false (eqb tag 253) _ _ (ne_eqb tag 253 (λ h. omega arith))
    ∙ cond-false (eqb tag 254) _ _ (ne_eqb tag 254 (λ h. omega arith))
    ∙ cond-false (eqb tag 255) _ _ (ne_eqb tag 255 (λ h. omega arith))

-- The tag and the words of an object determine the object.
module _ (graph : List Obj) (valid : IsGraph graph) where
  pub object_back : (object : Obj) → IsObject (length graph) object → object_from (positions_of graph) (tag_of object) (body_with (position graph) object) ≡ object
  object_back (objects.Block tag values) fits =
      other_tags tag _ _ _ _ _ fits.0
      ∙ ap (objects.Block tag) (map_back (value_from (positions_of graph)) (word_with (position graph)) values
      (All-weaker (IsValue (length graph)) (λ v. value_from (positions_of graph) (word_with (position graph) v) ≡ v) (value_back (position graph) (positions_of graph) (length graph) (numbered graph valid)) values fits.2))
  object_back (objects.Bytes bytes) fits = ap objects.Bytes (bytes_back bytes fits)
  object_back (objects.Double bits) fits = refl
  object_back (objects.Doubles all) fits = refl
  object_back (objects.I32 z) fits = ap objects.I32 (signed_back z (wider z fits))
  object_back (objects.I64 z) fits = ap objects.I64 (signed_back z fits)
  object_back (objects.Native z) fits = ap objects.Native (signed_back z fits)

-- The word at the offset of object `o` is the header of `o`.
module _ (graph : List Obj) (o : ℕ) (inside : o < length graph) (valid : IsObject (length graph) (object_at graph o)) where
  pub header_in : get_or (encode graph) (position graph o) 0 ≡ header (tag_of (object_at graph o)) (length (body_with (position graph) (object_at graph o)))
  header_in =
      let at : position graph o ≡ position graph o + 0 = omega arith in
      ap (λ (p : ℕ). get_or (encode graph) p 0) at ∙ word_in graph o inside 0 (omega (arith, two_words (length graph) (object_at graph o) valid))

  pub tag_in : get_or (encode graph) (position graph o) 0 % 1024 ≡ tag_of (object_at graph o)
  tag_in = omega (arith, header_in, tag_small (length graph) (object_at graph o) valid)

  pub size_in : get_or (encode graph) (position graph o) 0 / 1024 ≡ length (body_with (position graph) (object_at graph o))
  size_in = omega (arith, header_in, tag_small (length graph) (object_at graph o) valid)

pub decode-encode : (graph : List Obj) → IsGraph graph → decode (encode graph) (positions_of graph) ≡ graph
unfolding decode
decode-encode graph valid =
    same_lists (map (object_in (encode graph) (positions_of graph)) (positions_of graph)) graph
    (length-map (positions_of graph) (object_in (encode graph) (positions_of graph)) ∙ length-positions_of graph)
    (λ k d here.
    let inside : k < length graph = omega (arith, length-map (positions_of graph) (object_in (encode graph) (positions_of graph)), length-positions_of graph) in
    let fits : IsObject (length graph) (object_at graph k) = valid k (objects.I32 (pos 0)) inside in
    get_or-map (object_in (encode graph) (positions_of graph)) (positions_of graph) k 0 d (omega (arith, length-positions_of graph))
    ∙ ap (object_in (encode graph) (positions_of graph)) (get_or-positions_of graph k 0 inside)
    ∙ ap₂ (object_from (positions_of graph)) (tag_in graph k inside fits) (ap (λ (n : ℕ). take n (drop (position graph k + 1) (encode graph))) (size_in graph k inside fits) ∙ body_in graph k inside)
    ∙ object_back graph valid (object_at graph k) fits
    ∙ get_or_default graph k (objects.I32 (pos 0)) d inside)

-- The words and the offsets encode the graph, which is a heap.
pub record Holds (words positions : List ℕ) (graph : List Obj) : Type 0 where
  pub heap : IsHeap graph
  pub encoded : words ≡ encode graph
  pub placed : positions ≡ positions_of graph

pub held : (words positions : List ℕ) (graph : List Obj) → IsStored words positions → decode words positions ≡ graph → Holds words positions graph
held words positions graph stored seen = subst (Holds words positions) seen record { heap = stored.heap; encoded = stored.encoded; placed = stored.placed }

pub seen : (words positions : List ℕ) (graph : List Obj) → Holds words positions graph → decode words positions ≡ graph
seen words positions graph holds = ap₂ decode holds.encoded holds.placed ∙ decode-encode graph holds.heap.is_graph

pub stored : (words positions : List ℕ) (graph : List Obj) → Holds words positions graph → IsStored words positions
stored words positions graph holds =
    let same : Holds words positions (decode words positions) = subst (Holds words positions) (sym (seen words positions graph holds)) holds in
    record { heap = same.heap; encoded = same.encoded; placed = same.placed }

pub holds_nothing : Holds [] [] []
unfolding encode positions_of
holds_nothing = record {
  heap = record { is_graph = All-nil (IsObject 0); small = All-nil IsSmall; words = omega arith };
  encoded = refl;
  placed = refl;
}
