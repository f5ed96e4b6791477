-- Lemmas on the words of a graph when the graph is split, when one object is replaced, and when
-- objects are appended or removed.
use Rattle.std.proofs.Common.{◌≡◌, ℕ, zero, suc, ◌+◌, ◌-◌, ◌*◌, ◌<◌, ◌≤◌, List, [], ◌∷◌, ◌++◌, length, get_or, set, take, drop, refl, sym, ap, ap₂, ◌∙◌, arith, length-append, length-drop, take-append-drop, take_all}
use Rattle.std.specs.Prelude.{All, flat_map, pos}
use Rattle.std.proofs.lemmas.List.{length-map, drop_more, drop-drop, drop_at, drop-append-le, take-append-le, set-append_left, set-append_right}
use Rattle.std.proofs.lemmas.List.Elements.{All-head, All-tail, All-weaker}
use Rattle.std.proofs.lemmas.List.Sums.{sum_by-cons}
use Rattle.std.proofs.lemmas.List.Concat.{flat_map-append, get_or-flat_map}
use Rattle.base_data.specs.declared.model.value.Val.{Val}
use Rattle.base_data.specs.declared.model.value.Val.TheVariants as vals
use Rattle.base_data.specs.declared.model.value.Obj.{Obj}
use Rattle.base_data.specs.declared.model.value.Obj.TheVariants as objects
use Rattle.base_data.specs.model.Graph.{IsValue, IsObject, IsGraph}
use Rattle.marshal_heap.specs.heap.Heap.{object_at, object_words, heap_words, position, word_with}
use Rattle.marshal_heap.specs.heap.Stored.{encode}
use Rattle.marshal_heap.specs.heap.ObjectWords.{tag_of, body_with, code_with, header}
use Rattle.marshal_heap.proofs.heap.HeapPositionLemmas.{position_is, position-append, position-set}
use Rattle.marshal_heap.proofs.heap.WordLemmas.{map_same}
use Rattle.marshal_heap.proofs.heap.HeapStringLemmas.{length-string_words}

-- The code of an object has as many words as the object.
pub length-code : (at : ℕ → ℕ) (object : Obj) → length (code_with at object) ≡ object_words object
length-code at (objects.Block tag values) = omega (arith, length-map values (word_with at))
length-code at (objects.Bytes bytes) = omega (arith, length-string_words bytes)
length-code at (objects.Double bits) = refl
length-code at (objects.Doubles all) = omega arith
length-code at (objects.I32 z) = refl
length-code at (objects.I64 z) = refl
length-code at (objects.Native z) = refl

pub length-codes : (at : ℕ → ℕ) (graph : List Obj) → length (flat_map (code_with at) graph) ≡ heap_words graph
length-codes at [] = refl
length-codes at (x ∷ graph) =
    omega (arith, length-append (code_with at x) (flat_map (code_with at) graph), length-code at x, length-codes at graph, sum_by-cons object_words x graph)

pub length-encode : (graph : List Obj) → length (encode graph) ≡ heap_words graph
unfolding encode
length-encode graph = length-codes (position graph) graph

pub length-prefix : (graph : List Obj) (o : ℕ) → length (flat_map (code_with (position graph)) (take o graph)) ≡ position graph o
length-prefix graph o = length-codes (position graph) (take o graph) ∙ sym (position_is graph o)

-- If two functions give the first `n` objects the same offsets, then values and objects over these
-- objects have the same words.
module _ (at at' : ℕ → ℕ) (n : ℕ) (same : (k : ℕ) → k < n → at k ≡ at' k) where
  pub word-same : (v : Val) → IsValue n v → word_with at v ≡ word_with at' v
  word-same (vals.Int z) valid = refl
  word-same (vals.Atom tag) valid = refl
  word-same (vals.Ref k) valid = ap (λ (p : ℕ). 8 * p) (same k valid)

  pub body-same : (object : Obj) → IsObject n object → body_with at object ≡ body_with at' object
  body-same (objects.Block tag values) valid = map_same (word_with at) (word_with at') values (All-weaker (IsValue n) (λ v. word_with at v ≡ word_with at' v) word-same values valid.2)
  body-same (objects.Bytes bytes) valid = refl
  body-same (objects.Double bits) valid = refl
  body-same (objects.Doubles all) valid = refl
  body-same (objects.I32 z) valid = refl
  body-same (objects.I64 z) valid = refl
  body-same (objects.Native z) valid = refl

  pub code-same : (object : Obj) → IsObject n object → code_with at object ≡ code_with at' object
  code-same object valid = ap (λ (ws : List ℕ). header (tag_of object) (length ws) ∷ ws) (body-same object valid)

  pub codes-same : (graph : List Obj) → All (IsObject n) graph → flat_map (code_with at) graph ≡ flat_map (code_with at') graph
  codes-same [] valid = refl
  codes-same (x ∷ graph) valid =
      ap₂ (λ xs ys. xs ++ ys) (code-same x (All-head (IsObject n) x graph valid)) (codes-same graph (All-tail (IsObject n) x graph valid))

-- If objects are appended to a graph, then the earlier objects keep their words.
module _ (graph more : List Obj) where
  pub code-more : (object : Obj) → IsObject (length graph) object → code_with (position (graph ++ more)) object ≡ code_with (position graph) object
  code-more object valid = code-same (position (graph ++ more)) (position graph) (length graph) (λ k inside. position-append graph more k (omega arith)) object valid

  pub encode-append : IsGraph graph → encode (graph ++ more) ≡ encode graph ++ flat_map (code_with (position (graph ++ more))) more
  unfolding encode
  encode-append valid =
      flat_map-append (code_with (position (graph ++ more))) graph more
      ∙ ap (λ (ws : List ℕ). ws ++ flat_map (code_with (position (graph ++ more))) more) (codes-same (position (graph ++ more)) (position graph) (length graph) (λ k inside. position-append graph more k (omega arith)) graph valid)

-- The words of object `o` are at the offset of `o` in the words of the graph.
module _ (graph : List Obj) (o : ℕ) (inside : o < length graph) where
  abbrev object : Obj
  object = object_at graph o

  abbrev code : List ℕ
  code = code_with (position graph) object

  abbrev after : List ℕ
  after = flat_map (code_with (position graph)) (drop (o + 1) graph)

  pub split : encode graph ≡ flat_map (code_with (position graph)) (take o graph) ++ (code ++ after)
  unfolding encode
  split =
      ap (flat_map (code_with (position graph))) (sym (take-append-drop o graph) ∙ ap (λ (xs : List Obj). take o graph ++ xs) (drop_more graph o (objects.I32 (pos 0)) inside))
      ∙ flat_map-append (code_with (position graph)) (take o graph) (object ∷ drop (o + 1) graph)

  -- From word `j` of object `o` on, the graph's words are the object's words from `j` on and the
  -- words after the object.
  pub words_from : (j : ℕ) → j ≤ object_words object → drop (position graph o + j) (encode graph) ≡ drop j code ++ after
  words_from j few =
      ap (drop (position graph o + j)) split
      ∙ sym (drop-drop j (position graph o) _)
      ∙ ap (drop j) (drop_at (flat_map (code_with (position graph)) (take o graph)) (code ++ after) (position graph o) (length-prefix graph o))
      ∙ drop-append-le j code after (omega (arith, length-code (position graph) object))

  pub words_in : (j n : ℕ) → j + n ≤ object_words object → take n (drop (position graph o + j) (encode graph)) ≡ take n (drop j code)
  words_in j n few =
      ap (take n) (words_from j (omega arith))
      ∙ take-append-le n (drop j code) after (omega (arith, length-code (position graph) object, length-drop j code))

  pub word_in : (j : ℕ) → j < object_words object → get_or (encode graph) (position graph o + j) 0 ≡ get_or code j 0
  unfolding encode
  word_in j few =
      ap (λ (p : ℕ). get_or (encode graph) (p + j) 0) (sym (length-prefix graph o))
      ∙ get_or-flat_map (code_with (position graph)) graph o j (objects.I32 (pos 0)) 0 inside (omega (arith, length-code (position graph) object))

  pub body_in : take (length (body_with (position graph) object)) (drop (position graph o + 1) (encode graph)) ≡ body_with (position graph) object
  body_in =
      words_in 1 (length (body_with (position graph) object)) (omega (arith, length-code (position graph) object))
      ∙ take_all (length (body_with (position graph) object)) (body_with (position graph) object) (omega arith)

-- If word `j` of one object is replaced, then exactly one word of the graph's words is replaced.
pub flat_map-set : {X : Type 0} (f : X → List ℕ) (xs : List X) (o j w : ℕ) (y d : X) → o < length xs → f y ≡ set (f (get_or xs o d)) j w → j < length (f (get_or xs o d))
    → flat_map f (set xs o y) ≡ set (flat_map f xs) (length (flat_map f (take o xs)) + j) w
flat_map-set f [] o j w y d inside changed few = absurd (omega arith)
flat_map-set f (x ∷ xs) zero j w y d inside changed few =
    let at : j ≡ 0 + j = omega arith in
    ap (λ (ys : List ℕ). ys ++ flat_map f xs) changed
    ∙ sym (set-append_left (f x) (flat_map f xs) j w few)
    ∙ ap (λ (k : ℕ). set (f x ++ flat_map f xs) k w) at
flat_map-set f (x ∷ xs) (suc o) j w y d inside changed few =
    let long = length-append (f x) (flat_map f (take o xs)) in
    let at : length (flat_map f (take o xs)) + j ≡ length (f x ++ flat_map f (take o xs)) + j - length (f x) = omega arith in
    ap (λ (ys : List ℕ). f x ++ ys) (flat_map-set f xs o j w y d (omega arith) changed few ∙ ap (λ (k : ℕ). set (flat_map f xs) k w) at)
    ∙ sym (set-append_right (f x) (flat_map f xs) (length (f x)) (length (f x ++ flat_map f (take o xs)) + j) w refl (omega arith))

pub encode-set : (graph : List Obj) (o j w : ℕ) (new : Obj) → o < length graph
    → object_words new ≡ object_words (object_at graph o)
    → All (IsObject (length graph)) (set graph o new)
    → code_with (position graph) new ≡ set (code_with (position graph) (object_at graph o)) j w
    → j < object_words (object_at graph o)
    → encode (set graph o new) ≡ set (encode graph) (position graph o + j) w
unfolding encode
encode-set graph o j w new inside same valid changed few =
    codes-same (position (set graph o new)) (position graph) (length graph) (λ k l. position-set graph o k new same) (set graph o new) valid
    ∙ flat_map-set (code_with (position graph)) graph o j w new (objects.I32 (pos 0)) inside changed (omega (arith, length-code (position graph) (object_at graph o)))
    ∙ ap (λ (p : ℕ). set (flat_map (code_with (position graph)) graph) (p + j) w) (length-prefix graph o)
