-- The number of 64-bit words of the objects that tokens build.
use Rattle.std.proofs.Common.{◌≡◌, ℕ, zero, suc, ◌+◌, ◌<◌, ◌≤◌, List, [], ◌∷◌, ◌++◌, length, map, take, pos, Option, Some, arith, ap, sym, subst, ◌∙◌, refl, length-append}
use Rattle.std.specs.List.{concat}
use Rattle.std.specs.Prelude.{All, replicate}
use Rattle.std.proofs.lemmas.List.{length-replicate, length-take, take_at}
use Rattle.std.proofs.lemmas.List.Elements.{All-head, All-tail}
use Rattle.std.proofs.lemmas.List.Sums.{sum_by-cons, sum_by-set}
use Rattle.base_data.specs.declared.model.value.Val.{Val}
use Rattle.base_data.specs.declared.model.value.Val.TheVariants as vals
use Rattle.base_data.specs.declared.model.value.Obj.{Obj}
use Rattle.base_data.specs.declared.model.value.Obj.TheVariants as objs
use Rattle.base_data.specs.declared.model.code.Measure.TheVariants as measures
use Rattle.base_data.specs.declared.model.code.Custom.{Custom}
use Rattle.base_data.specs.declared.model.code.Custom.TheVariants as customs
use Rattle.marshal_spec.specs.format.Words.{of_object, words64, all_words64}
use Rattle.marshal_spec.specs.format.Raw.{block_measure}
use Rattle.marshal_spec.specs.format.Header.{header_length, head_of}
use Rattle.marshal_spec.specs.format.Token.{Token, integer, atom, shared, block, leaf, IsToken, leaf_measure, measure_of}
use Rattle.marshal_spec.specs.format.Tree.{Tree, IsTree, tokens, value_of, objects_of}
use Rattle.marshal_spec.specs.format.Encoded.{EncodedUnder}
use Rattle.marshal_spec.proofs.format.EncodeValues.{IsToken-all_encoded}
use Rattle.marshal_spec.proofs.format.TokenStepLemmas.{header_length-from, header_length-take, head_of-take}
use Rattle.marshal_spec.proofs.format.OneJudgement.{header_length-append}
use Rattle.marshal_heap.specs.heap.Heap.{object_at, with_field, set_field, object_words, heap_words, custom_object}
use Rattle.marshal_heap.proofs.heap.HeapReadLemmas.{object_words-with_field}
use Rattle.marshal_heap.proofs.heap.HeapWriteLemmas.{heap_words-append}
use Rattle.marshal_read.specs.Build.{Building, Bounded, building, in_room, Fits, start, fill, blank, blank_fields, absorb, absorb_all, AreOpen, WellOpen}
use Rattle.marshal_read.specs.declared.graph_builder.PendingBlock.{PendingBlock}
use Rattle.marshal_read.proofs.BuildLemmas.{AreOpen-append, WellOpen-absorb, WellOpen-start}
use Rattle.marshal_read.proofs.ReaderTreeLemmas.{absorb_start}

-- ---- a field

pub heap_words-set_field : (all : List Obj) (b i : ℕ) (v : Val) → b < length all → heap_words (set_field all b i v) ≡ heap_words all
heap_words-set_field all b i v h =
    let s = sum_by-set object_words all b (with_field (object_at all b) i v) (objs.I32 (pos 0)) h in
    let w = object_words-with_field (object_at all b) i v in
    omega arith

-- ---- an object

heap_words-one : (o : Obj) → heap_words (o ∷ []) ≡ object_words o
heap_words-one o = let s = sum_by-cons object_words o [] in omega arith

pub heap_words-push : (all : List Obj) (o : Obj) → heap_words (all ++ o ∷ []) ≡ heap_words all + object_words o
heap_words-push all o = heap_words-append all (o ∷ []) ∙ ap (λ n. heap_words all + n) (heap_words-one o)

-- If an object fits into the room, then the words of the objects with this object are within the
-- room.
pub within_added : (all new : List Obj) (object : Obj) (bs : List PendingBlock) (r : Option Val) (room : ℕ) (s : Bounded) → in_room (building all bs r) room ≡ s → new ≡ all ++ object ∷ []
    → heap_words s.built.objects + object_words object ≤ s.room → heap_words new ≤ room
within_added all new object bs r room s v e h =
    let fits : heap_words all + object_words object ≤ room = subst (λ (x : Bounded). heap_words x.built.objects + object_words object ≤ x.room) (sym v) h in
    let words : heap_words new ≡ heap_words all + object_words object = ap heap_words e ∙ heap_words-push all object in
    subst (λ n. n ≤ room) (sym words) fits

-- If a block of `size` fields fits into the room, then the words of the objects with this block are
-- within the room.
pub within_fields : (all new : List Obj) (tag size : ℕ) (bs : List PendingBlock) (r : Option Val) (room : ℕ) (s : Bounded) → in_room (building all bs r) room ≡ s
    → new ≡ all ++ objs.Block tag (replicate size (vals.Int (pos 0))) ∷ [] → Fits s (Some (measures.Block size)) → heap_words new ≤ room
within_fields all new tag size bs r room s v e h =
    within_added all new (objs.Block tag (replicate size (vals.Int (pos 0)))) bs r room s v e
    (subst (λ n. heap_words s.built.objects + (1 + n) ≤ s.room) (sym (length-replicate size (vals.Int (pos 0)))) h)

pub within_block : (all new : List Obj) (tag size : ℕ) (bs : List PendingBlock) (r : Option Val) (room : ℕ) (s : Bounded) → in_room (building all bs r) room ≡ s
    → new ≡ all ++ objs.Block tag (replicate size (vals.Int (pos 0))) ∷ [] → 0 < size → Fits s (block_measure size) → heap_words new ≤ room
within_block all new tag zero bs r room s v e some h = absurd (omega arith)
within_block all new tag (suc n) bs r room s v e some h = within_fields all new tag (suc n) bs r room s v e h

-- A custom block has as many words as its measure states.
pub custom_words64 : (c : Custom) → of_object words64 (leaf_measure (custom_object c)) ≡ object_words (custom_object c)
custom_words64 (customs.I32 z) = refl
custom_words64 (customs.I64 z) = refl
custom_words64 (customs.Native z) = refl

-- The object that a token makes has as many words as the token's measure states.
heap_words-blank : (t : Token) → IsToken t → heap_words (blank t) ≡ of_object words64 (measure_of t)
heap_words-blank (integer z) h = refl
heap_words-blank (atom tag) h = refl
heap_words-blank (shared offset) h = refl
heap_words-blank (block tag size) h =
    heap_words-one (objs.Block tag (blank_fields (block tag size))) ∙ ap (λ n. 1 + n) (length-replicate size (vals.Int (pos 0)))
heap_words-blank (leaf (objs.Block tag values)) h = absurd h
heap_words-blank (leaf (objs.Bytes bytes)) h = heap_words-one (objs.Bytes bytes)
heap_words-blank (leaf (objs.Double bits)) h = heap_words-one (objs.Double bits)
heap_words-blank (leaf (objs.Doubles all)) h = heap_words-one (objs.Doubles all)
heap_words-blank (leaf (objs.I32 z)) h = heap_words-one (objs.I32 z)
heap_words-blank (leaf (objs.I64 z)) h = heap_words-one (objs.I64 z)
heap_words-blank (leaf (objs.Native z)) h = heap_words-one (objs.Native z)

-- ---- tokens

heap_words-fill : (v : Val) (all : List Obj) (bs : List PendingBlock) (r : Option Val) → AreOpen all bs → heap_words (fill v all bs r).objects ≡ heap_words all
heap_words-fill v all [] r h = refl
heap_words-fill v all (b ∷ outer) r h = heap_words-set_field all b.object b.next v h.0.object

-- If a value is stored, then the words of the objects stay within the room.
pub within_filled : (v : Val) (all : List Obj) (bs same : List PendingBlock) (r : Option Val) (room : ℕ) (new : Building) → AreOpen all bs → same ≡ bs → new ≡ fill v all same r
    → heap_words all ≤ room → heap_words new.objects ≤ room
within_filled v all bs same r room new h s e w =
    subst (λ (b : Building). heap_words b.objects ≤ room) (sym e)
    (subst (λ (blocks : List PendingBlock). heap_words (fill v all blocks r).objects ≤ room) (sym s) (subst (λ n. n ≤ room) (sym (heap_words-fill v all bs r h)) w))

pub heap_words-absorb : (state : Building) (t : Token) → IsToken t → WellOpen state
    → heap_words (absorb state t).objects ≡ heap_words state.objects + of_object words64 (measure_of t)
heap_words-absorb state t h w =
    heap_words-fill (value_of t (length state.objects)) (state.objects ++ blank t) state.open_blocks state.root
    (AreOpen-append state.objects (blank t) state.open_blocks w.are_open)
    ∙ heap_words-append state.objects (blank t)
    ∙ ap (λ n. heap_words state.objects + n) (heap_words-blank t h)

heap_words-absorb_all : (state : Building) (ts : List Token) → All IsToken ts → WellOpen state
    → heap_words (absorb_all state ts).objects ≡ heap_words state.objects + all_words64 (map measure_of ts)
heap_words-absorb_all state [] h w = omega arith
heap_words-absorb_all state (t ∷ ts) h w =
    let one : IsToken t = All-head IsToken t ts h in
    let a = heap_words-absorb state t one w in
    let b = heap_words-absorb_all (absorb state t) ts (All-tail IsToken t ts h) (WellOpen-absorb state t one w) in
    let c = sum_by-cons (of_object words64) (measure_of t) (map measure_of ts) in
    omega arith

pub heap_words-from_start : (ts : List Token) → All IsToken ts → heap_words (absorb_all start ts).objects ≡ all_words64 (map measure_of ts)
heap_words-from_start ts h = let e = heap_words-absorb_all start ts h WellOpen-start in omega arith

-- ---- a whole value

-- The objects of a tree have as many words as the measures of the tree's tokens state.
heap_words-objects_of : (tree : Tree) → IsTree tree → All IsToken (tokens tree) → heap_words (objects_of tree 0) ≡ all_words64 (map measure_of (tokens tree))
heap_words-objects_of tree h k = sym (ap (λ (b : Building). heap_words b.objects) (absorb_start tree h)) ∙ heap_words-from_start (tokens tree) k

-- If a prefix of the bytes begins with a complete header, then the header states what the header of
-- all bytes states.
head_in_prefix : (n : ℕ) (bytes header more : List ℕ) → length header ≡ header_length header → take n bytes ≡ header ++ more → head_of header ≡ head_of bytes
head_in_prefix n bytes header more whole e =
    let from = header_length-from header in
    let prefix : header_length (header ++ more) ≡ header_length header = header_length-append header more whole in
    let len : length (take n bytes) ≡ length header + length more = ap length e ∙ length-append header more in
    let enough : length header ≤ n = omega (arith, length-take n bytes) in
    let same : header_length bytes ≡ header_length header = sym (header_length-take n bytes (omega arith)) ∙ ap header_length e ∙ prefix in
    ap head_of (sym (take_at header more (length header) refl))
    ∙ head_of-take (length header) (header ++ more) (omega arith)
    ∙ ap head_of (sym e)
    ∙ head_of-take n bytes (omega arith)

-- The objects of an encoded tree have as many words as the header states, and at most `limit`
-- words.
pub encoded_words : (limit n : ℕ) (bytes : List ℕ) (tree : Tree) → EncodedUnder limit (take n bytes) tree
    → (heap_words (objects_of tree 0) ≡ (head_of bytes).w64) × (heap_words (objects_of tree 0) ≤ limit)
encoded_words limit n bytes tree s =
    let same = head_in_prefix n bytes s.header (concat s.chunks) s.encodes.is_header.whole s.bytes_are in
    let words = heap_words-objects_of tree s.encodes.is_tree (IsToken-all_encoded (tokens tree) s.chunks s.encodes.encodes) in
    let stated : heap_words (objects_of tree 0) ≡ (head_of s.header).w64 = words ∙ sym s.encodes.states.w64 in
    (stated ∙ ap (λ h. h.w64) same, omega (arith, s.words))
