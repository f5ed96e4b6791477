-- Lemmas for callers: a word determines a value, and represents the same value after objects are
-- appended and filled.
use Rattle.std.proofs.Common.{◌≡◌, ℕ, ◌*◌, ◌<◌, List, [], ◌∷◌, ◌++◌, length, get_or, map, refl, sym, ap, ◌∙◌, arith, length-set}
use Rattle.std.proofs.lemmas.List.{get_or-map}
use Rattle.base_data.specs.declared.model.value.Val.{Val}
use Rattle.base_data.specs.declared.model.value.Val.TheVariants as vals
use Rattle.base_data.specs.declared.model.value.Obj.{Obj}
use Rattle.base_data.specs.declared.model.value.Obj.TheVariants as objects
use Rattle.base_data.specs.model.Graph.{IsValue, IsGraph}
use Rattle.marshal_heap.specs.heap.Heap.{object_at, with_field, set_field, object_words, heap_words, position, word_of}
use Rattle.marshal_heap.specs.heap.Stored.{positions_of, value_from}
use Rattle.marshal_heap.proofs.heap.HeapPositionLemmas.{position-append, position-all, position-set}
use Rattle.marshal_heap.proofs.heap.WordLemmas.{value_back}
use Rattle.marshal_heap.proofs.heap.CodeLemmas.{word-same}
use Rattle.marshal_heap.proofs.heap.StoredLemmas.{numbered}

-- Word `i` of a block's fields is the word of field `i`.
pub field_word-at : (graph : List Obj) (values : List Val) (i : ℕ) (d : Val) → i < length values → get_or (map (word_of graph) values) i 0 ≡ word_of graph (get_or values i d)
field_word-at graph values i d inside = get_or-map (word_of graph) values i d 0 inside

-- If two values have the same word, then the two values are equal.
pub word_of-inj : (graph : List Obj) (v w : Val) → IsGraph graph → IsValue (length graph) v → IsValue (length graph) w → word_of graph v ≡ word_of graph w → v ≡ w
word_of-inj graph v w valid v_valid w_valid same =
    let back : (u : Val) → IsValue (length graph) u → value_from (positions_of graph) (word_of graph u) ≡ u =
    value_back (position graph) (positions_of graph) (length graph) (numbered graph valid) in
    sym (back v v_valid) ∙ ap (value_from (positions_of graph)) same ∙ back w w_valid

-- If objects are appended, then each value keeps its word.
pub word_of-append : (graph more : List Obj) (v : Val) → IsValue (length graph) v → word_of (graph ++ more) v ≡ word_of graph v
word_of-append graph more v valid =
    word-same (position (graph ++ more)) (position graph) (length graph) (λ k inside. position-append graph more k (omega arith)) v valid

-- If an object is appended, then the word of a reference to the object is 8 times the number of
-- words before.
pub word_of-next : (graph : List Obj) (object : Obj) → word_of (graph ++ object ∷ []) (vals.Ref (length graph)) ≡ 8 * heap_words graph
word_of-next graph object = ap (λ (p : ℕ). 8 * p) (position-append graph (object ∷ []) (length graph) (omega arith) ∙ position-all graph)

-- Writing a field does not change the size of an object.
pub object_words-with_field : (object : Obj) (i : ℕ) (v : Val) → object_words (with_field object i v) ≡ object_words object
object_words-with_field (objects.Block tag values) i v = omega (arith, length-set values i v)
object_words-with_field object i v = refl

-- If a field is written, then each value keeps its word.
pub word_of-set_field : (graph : List Obj) (o i : ℕ) (v w : Val) → word_of (set_field graph o i v) w ≡ word_of graph w
word_of-set_field graph o i v (vals.Int z) = refl
word_of-set_field graph o i v (vals.Atom tag) = refl
word_of-set_field graph o i v (vals.Ref k) =
    ap (λ (p : ℕ). 8 * p) (position-set graph o k (with_field (object_at graph o) i v) (object_words-with_field (object_at graph o) i v))
