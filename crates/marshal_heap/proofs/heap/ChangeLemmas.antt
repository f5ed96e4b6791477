-- Lemmas on the fields of a `Heap` when the fields are read, when an object is appended or changed,
-- and when objects are removed.
use Rattle.std.proofs.Common.{◌≡◌, ℕ, suc, ◌+◌, ◌-◌, ◌/◌, ◌%◌, ◌^◌, ◌<◌, ◌≤◌, List, [], ◌∷◌, ◌++◌, length, get_or, set, take, drop, map, sym, ap, ap₂, subst, ◌∙◌, arith, length-set, length-take-le, take-append-drop, take_at, append-nil, append_assoc, take_all}
use Rattle.std.specs.Prelude.{All, pos}
use Rattle.std.specs.List.{range_with_len}
use Rattle.std.proofs.lemmas.List.{length_push, get_or-map}
use Rattle.std.proofs.lemmas.List.Elements.{All-push, All-weaker, All-from_get_or}
use Rattle.std.proofs.lemmas.List.FromFn.{length-range_with_len, get_or-range_with_len, take-map-range_with_len, map-range_with_len_more}
use Rattle.std.proofs.lemmas.List.Sums.{sum_by_push}
use Rattle.base_data.specs.declared.model.value.Val.TheVariants as vals
use Rattle.base_data.specs.declared.model.value.Obj.{Obj}
use Rattle.base_data.specs.declared.model.value.Obj.TheVariants as objects
use Rattle.base_data.specs.model.Graph.{IsObject, IsGraph}
use Rattle.marshal_heap.specs.heap.Heap.{object_at, object_words, heap_words, position, IsSmall, IsHeap, word_with, fields_of}
use Rattle.marshal_heap.specs.heap.Stored.{encode, positions_of, decode, IsStored}
use Rattle.marshal_heap.specs.heap.ObjectWords.{tag_of, header, header_of, body_with, code_with}
use Rattle.marshal_heap.proofs.heap.HeapLemmas.{IsObject-more, Replaces, IsHeap-set, IsHeap-take}
use Rattle.marshal_heap.proofs.heap.HeapPositionLemmas.{position_is, position-append, position-all, position-set, position_inside, two_words}
use Rattle.marshal_heap.proofs.heap.WordLemmas.{map_same}
use Rattle.marshal_heap.proofs.heap.CodeLemmas.{length-code, length-encode, code-more, encode-append, encode-set, words_in, word_in, body_in}
use Rattle.marshal_heap.proofs.heap.StoredLemmas.{Holds, held, seen, stored, length-positions_of, get_or-positions_of, tag_small, header_in}
use Rattle.marshal_heap.proofs.heap.NewLemmas.{IsNew, words-fields, body-fields}

-- If two functions agree on the numbers below `n`, then the two lists of the functions' values are
-- equal.
pub map_range_same : (f g : ℕ → ℕ) (n : ℕ) → ((k : ℕ) → k < n → f k ≡ g k) → map f (range_with_len 0 n) ≡ map g (range_with_len 0 n)
map_range_same f g n same =
    map_same f g (range_with_len 0 n) (All-from_get_or (λ k. f k ≡ g k) (range_with_len 0 n) 0 (λ i inside.
    let few : i < n = omega (arith, length-range_with_len 0 n) in
    let here : i ≡ get_or (range_with_len 0 n) i 0 = omega (arith, get_or-range_with_len 0 n i 0 few) in
    subst (λ (k : ℕ). f k ≡ g k) here (same i few)))

-- If a valid and small object is appended and the words are within the bound, then the graph stays
-- a heap.
pub IsHeap-append : (graph : List Obj) (new : Obj) → IsObject (length graph) new → IsSmall new → heap_words graph + object_words new < 2 ^ 60 → IsHeap graph → IsHeap (graph ++ new ∷ [])
IsHeap-append graph new valid small room heap =
    let more : length graph ≤ length (graph ++ new ∷ []) = omega (arith, length_push graph new) in
    record {
      is_graph = All-push (IsObject (length (graph ++ new ∷ []))) graph new
          (All-weaker (IsObject (length graph)) (IsObject (length (graph ++ new ∷ []))) (λ x h. IsObject-more (length graph) (length (graph ++ new ∷ [])) x more h) graph heap.is_graph)
          (IsObject-more (length graph) (length (graph ++ new ∷ [])) new more valid);
      small = All-push IsSmall graph new heap.small small;
      words = omega (arith, sum_by_push object_words graph new);
    }

module _ (words positions : List ℕ) (graph : List Obj) (holds : Holds words positions graph) where
  pub many_positions : length positions ≡ length graph
  many_positions = ap length holds.placed ∙ length-positions_of graph

  pub many_words : length words ≡ heap_words graph
  many_words = ap length holds.encoded ∙ length-encode graph

  pub position_at : (k d : ℕ) → k < length graph → get_or positions k d ≡ position graph k
  position_at k d inside = ap (λ (ps : List ℕ). get_or ps k d) holds.placed ∙ get_or-positions_of graph k d inside

  pub object_valid : (k : ℕ) → k < length graph → IsObject (length graph) (object_at graph k)
  object_valid k inside = holds.heap.is_graph k (objects.I32 (pos 0)) inside

  pub object_small : (k : ℕ) → k < length graph → IsSmall (object_at graph k)
  object_small k inside = holds.heap.small k (objects.I32 (pos 0)) inside

  -- The words of an object are within the arena.
  pub object_inside : (k : ℕ) → k < length graph → position graph k + object_words (object_at graph k) ≤ length words
  object_inside k inside = omega (arith, many_words, position_inside graph k holds.heap.is_graph inside)

  header_at : (k : ℕ) → k < length graph → get_or words (position graph k) 0 ≡ header (tag_of (object_at graph k)) (length (body_with (position graph) (object_at graph k)))
  header_at k inside = ap (λ (ws : List ℕ). get_or ws (position graph k) 0) holds.encoded ∙ header_in graph k inside (object_valid k inside)

  -- If the header of object `k` is at offset `p`, then the words at `p` are the header and the body
  -- of object `k`.
  module _ (k p : ℕ) (inside : k < length graph) (at : p ≡ position graph k) where
    header_read : get_or words p 0 ≡ header (tag_of (object_at graph k)) (length (body_with (position graph) (object_at graph k)))
    header_read = ap (λ (p : ℕ). get_or words p 0) at ∙ header_at k inside

    pub tag_here : get_or words p 0 % 1024 ≡ tag_of (object_at graph k)
    tag_here = omega (arith, header_read, tag_small (length graph) (object_at graph k) (object_valid k inside))

    pub size_here : get_or words p 0 / 1024 ≡ length (body_with (position graph) (object_at graph k))
    size_here = omega (arith, header_read, tag_small (length graph) (object_at graph k) (object_valid k inside))

    pub header_here : get_or words p 0 ≡ header_of (object_at graph k)
    header_here =
        let many : length (body_with (position graph) (object_at graph k)) ≡ object_words (object_at graph k) - 1 = omega (arith, length-code (position graph) (object_at graph k)) in
        header_read ∙ ap (header (tag_of (object_at graph k))) many

    pub header_inside : p < length words
    header_inside = omega (arith, object_inside k inside, two_words (length graph) (object_at graph k) (object_valid k inside))

    pub body_inside : p + 1 + get_or words p 0 / 1024 ≤ length words
    body_inside = omega (arith, size_here, object_inside k inside, length-code (position graph) (object_at graph k))

    pub body_here : take (get_or words p 0 / 1024) (drop (p + 1) words) ≡ body_with (position graph) (object_at graph k)
    body_here =
        ap₂ (λ n q. take n (drop (q + 1) words)) size_here at
        ∙ ap (λ (ws : List ℕ). take (length (body_with (position graph) (object_at graph k))) (drop (position graph k + 1) ws)) holds.encoded
        ∙ body_in graph k inside

  -- From the offset of object `k` on, the arena contains all words of object `k`.
  pub code_at : (k : ℕ) → k < length graph → take (object_words (object_at graph k)) (drop (position graph k) words) ≡ code_with (position graph) (object_at graph k)
  code_at k inside =
      let at : position graph k ≡ position graph k + 0 = omega arith in
      let long : length (code_with (position graph) (object_at graph k)) ≡ object_words (object_at graph k) = length-code (position graph) (object_at graph k) in
      ap₂ (λ p ws. take (object_words (object_at graph k)) (drop p ws)) at holds.encoded
      ∙ words_in graph k inside 0 (object_words (object_at graph k)) (omega arith)
      ∙ take_all (object_words (object_at graph k)) (code_with (position graph) (object_at graph k)) (omega arith)

  -- Word `j` after the offset of object `k` is word `j` of the object.
  pub word_at : (k j : ℕ) → k < length graph → j < object_words (object_at graph k) → get_or words (position graph k + j) 0 ≡ get_or (code_with (position graph) (object_at graph k)) j 0
  word_at k j inside few = ap (λ (ws : List ℕ). get_or ws (position graph k + j) 0) holds.encoded ∙ word_in graph k inside j few

  -- Word `i` after the header of object `k` is word `i` of the object's body.
  pub body_word : (k i p : ℕ) → k < length graph → i + 1 < object_words (object_at graph k) → p ≡ position graph k → get_or words (p + 1 + i) 0 ≡ get_or (body_with (position graph) (object_at graph k)) i 0
  body_word k i p inside few at =
      let here : p + 1 + i ≡ position graph k + suc i = omega arith in
      ap (λ (p : ℕ). get_or words p 0) here ∙ word_at k (suc i) inside (omega arith)

  -- Word `i` after the header of a block is the word of field `i`.
  pub field_word : (k i p w : ℕ) → k < length graph → i < length (fields_of (object_at graph k)) → p ≡ position graph k → w ≡ get_or words (p + 1 + i) 0
      → w ≡ word_with (position graph) (get_or (fields_of (object_at graph k)) i (vals.Int (pos 0)))
  field_word k i p w inside few at read =
      read
      ∙ body_word k i p inside (words-fields (object_at graph k) i few) at
      ∙ ap (λ (ws : List ℕ). get_or ws i 0) (body-fields (position graph) (object_at graph k) (omega arith))
      ∙ get_or-map (word_with (position graph)) (fields_of (object_at graph k)) i (vals.Int (pos 0)) 0 few

  -- The offset of word `i` after an object's header is within the arena.
  pub word_inside : (k i p : ℕ) → k < length graph → i + 1 < object_words (object_at graph k) → p ≡ position graph k → p + 1 + i < length words
  word_inside k i p inside few at = omega (arith, object_inside k inside)

  -- All header offsets are within the arena.
  pub positions_below : All (λ p. p < length words) positions
  positions_below k d here =
      let inside : k < length graph = omega (arith, many_positions) in
      omega (arith, position_at k d inside, object_inside k inside, two_words (length graph) (object_at graph k) (object_valid k inside))

  -- If an object's words and offset are appended, then the arena stores the graph with the object
  -- appended.
  pub appended : (words' positions' : List ℕ) (new : Obj) → IsObject (length graph) new → IsSmall new → length words + object_words new < 2 ^ 60
      → words' ≡ words ++ code_with (position graph) new → positions' ≡ positions ++ length words ∷ [] → Holds words' positions' (graph ++ new ∷ [])
  unfolding positions_of
  appended words' positions' new valid small room words_are positions_are =
      let graph' : List Obj = graph ++ new ∷ [] in
      record {
        heap = IsHeap-append graph new valid small (omega (arith, many_words)) holds.heap;
        encoded =
            words_are ∙ ap₂ (λ xs ys. xs ++ ys) holds.encoded (sym (append-nil (code_with (position graph') new) ∙ code-more graph (new ∷ []) new valid))
            ∙ sym (encode-append graph (new ∷ []) holds.heap.is_graph);
        placed =
            let old : positions_of graph ≡ map (position graph') (range_with_len 0 (length graph)) =
            map_range_same (position graph) (position graph') (length graph) (λ k inside. sym (position-append graph (new ∷ []) k (omega arith))) in
            let last : length words ≡ position graph' (length graph) = many_words ∙ sym (position-append graph (new ∷ []) (length graph) (omega arith) ∙ position-all graph) in
            positions_are ∙ ap₂ (λ xs y. xs ++ y ∷ []) (holds.placed ∙ old) last
            ∙ sym (ap (λ (n : ℕ). map (position graph') (range_with_len 0 n)) (length_push graph new) ∙ map-range_with_len_more (position graph') 0 (length graph) (length graph) (omega arith));
      }

  -- If word `j` of object `o` is replaced, then the arena stores the graph with object `o`
  -- replaced.
  pub changed : (words' : List ℕ) (o j w : ℕ) (new : Obj) → o < length graph → Replaces (length graph) (object_at graph o) new
      → code_with (position graph) new ≡ set (code_with (position graph) (object_at graph o)) j w → j < object_words (object_at graph o)
      → words' ≡ set words (position graph o + j) w → Holds words' positions (set graph o new)
  unfolding positions_of
  changed words' o j w new inside replaces code few words_are =
      let heap' : IsHeap (set graph o new) = IsHeap-set graph o new inside replaces holds.heap in
      record {
        heap = heap';
        encoded =
            words_are ∙ ap (λ (ws : List ℕ). set ws (position graph o + j) w) holds.encoded
            ∙ sym (encode-set graph o j w new inside replaces.words (subst (λ (n : ℕ). All (IsObject n) (set graph o new)) (length-set graph o new) heap'.is_graph) code few);
        placed =
            holds.placed
            ∙ map_range_same (position graph) (position (set graph o new)) (length graph) (λ k l. sym (position-set graph o k new replaces.words))
            ∙ ap (λ (n : ℕ). map (position (set graph o new)) (range_with_len 0 n)) (sym (length-set graph o new));
      }

  -- If the objects from number `n` on are removed, then the arena stores the graph of the first `n`
  -- objects.
  pub dropped : (n : ℕ) → n ≤ length graph → IsGraph (take n graph) → Holds (take (position graph n) words) (take n positions) (take n graph)
  unfolding positions_of
  dropped n few closed =
      let whole : take n graph ++ drop n graph ≡ graph = take-append-drop n graph in
      let many : length (take n graph) ≡ n = length-take-le n graph few in
      let same : (k : ℕ) → k < n → position graph k ≡ position (take n graph) k =
      λ k l. ap (λ (g : List Obj). position g k) (sym whole) ∙ position-append (take n graph) (drop n graph) k (omega arith) in
      record {
        heap = IsHeap-take n graph closed holds.heap;
        encoded =
            ap (take (position graph n)) (holds.encoded ∙ ap encode (sym whole) ∙ encode-append (take n graph) (drop n graph) closed)
            ∙ take_at (encode (take n graph)) _ (position graph n) (length-encode (take n graph) ∙ sym (position_is graph n));
        placed =
            ap (take n) holds.placed
            ∙ take-map-range_with_len (position graph) 0 (length graph) n few
            ∙ map_range_same (position graph) (position (take n graph)) n same
            ∙ ap (λ (m : ℕ). map (position (take n graph)) (range_with_len 0 m)) (sym many);
      }

-- The fields of a `Heap` after a call that appends an object's header and then the object's words.
module _ (words positions : List ℕ) (graph : List Obj) (is_stored : IsStored words positions) (view : decode words positions ≡ graph) where
  pub made_code : (begun words' positions' code : List ℕ) (new : Obj) → IsObject (length graph) new → IsSmall new → length words + object_words new < 2 ^ 60
      → begun ≡ words → words' ≡ begun ++ code → code ≡ code_with (position graph) new → positions' ≡ positions ++ length words ∷ []
      → IsStored words' positions' × (decode words' positions' ≡ graph ++ new ∷ [])
  made_code begun words' positions' code new valid small room begin end code_is position_is =
      let holds : Holds words positions graph = held words positions graph is_stored view in
      let holds' : Holds words' positions' (graph ++ new ∷ []) = appended words positions graph holds words' positions' new valid small room (end ∙ ap₂ (λ xs ys. xs ++ ys) begin code_is) position_is in
      (stored words' positions' (graph ++ new ∷ []) holds', seen words' positions' (graph ++ new ∷ []) holds')

  pub made : (begun with_header words' positions' body : List ℕ) (h size : ℕ) (new : Obj) → IsNew (length graph) size (position graph) new body → length words + (1 + size) < 2 ^ 60
      → begun ≡ words → with_header ≡ begun ++ h ∷ [] → h ≡ header (tag_of new) size → words' ≡ with_header ++ body → positions' ≡ positions ++ length words ∷ []
      → IsStored words' positions' × (decode words' positions' ≡ graph ++ new ∷ [])
  made begun with_header words' positions' body h size new is_new room begin middle header_is end position_is =
      let many : length (body_with (position graph) new) ≡ size = omega (arith, length-code (position graph) new, is_new.words) in
      let code : h ∷ body ≡ code_with (position graph) new =
      ap₂ (λ x xs. x ∷ xs) (header_is ∙ ap (header (tag_of new)) (sym many)) is_new.body_is in
      made_code begun words' positions' (h ∷ body) new is_new.valid is_new.small (omega (arith, is_new.words)) begin
      (end ∙ ap (λ (xs : List ℕ). xs ++ body) middle ∙ append_assoc begun (h ∷ []) body) code position_is

-- The fields of a `Heap` after a call that replaces one word of object `o`.
module _ (words positions : List ℕ) (graph : List Obj) (is_stored : IsStored words positions) (view : decode words positions ≡ graph) where
  pub remade : (words' : List ℕ) (o i p w : ℕ) (new : Obj) → o < length graph → Replaces (length graph) (object_at graph o) new
      → code_with (position graph) new ≡ set (code_with (position graph) (object_at graph o)) (suc i) w → i + 1 < object_words (object_at graph o) → p ≡ position graph o
      → words' ≡ set words (p + 1 + i) w → IsStored words' positions × (decode words' positions ≡ set graph o new)
  remade words' o i p w new inside replaces code few at end =
      let holds : Holds words positions graph = held words positions graph is_stored view in
      let here : p + 1 + i ≡ position graph o + suc i = omega arith in
      let holds' : Holds words' positions (set graph o new) = changed words positions graph holds words' o (suc i) w new inside replaces code (omega arith) (end ∙ ap (λ (n : ℕ). set words n w) here) in
      (stored words' positions (set graph o new) holds', seen words' positions (set graph o new) holds')
