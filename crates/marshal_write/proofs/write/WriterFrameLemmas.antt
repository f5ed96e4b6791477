-- Lemmas on the remaining fields of open blocks.
use Rattle.std.proofs.Common.{ℕ, true, false, ◌≡◌, ◌==◌, ◌+◌, ◌-◌, ◌*◌, ◌/◌, ◌%◌, ◌<◌, ◌≤◌, ◌∙◌, ◌^◌, List, [], ◌∷◌, ◌++◌, length, map, drop, Option, Some, None, refl, sym, ap, subst, arith, eqb-true, inl, inr, append_assoc, append-nil}
use Rattle.std.specs.Prelude.{All, pos, negsuc}
use Rattle.std.proofs.lemmas.Bool.{cases_order}
use Rattle.std.proofs.lemmas.List.{length-map, length-drop}
use Rattle.std.proofs.lemmas.List.Elements.{All-nil, All-cons, All-head, All-tail}
use Rattle.base_data.specs.declared.model.value.Val.{Val}
use Rattle.base_data.specs.declared.model.value.Val.TheVariants as vals
use Rattle.base_data.specs.declared.model.value.Obj.{Obj}
use Rattle.base_data.specs.declared.model.value.Obj.TheVariants as objects
use Rattle.base_data.specs.model.Graph.{IsValue, IsObject}
use Rattle.marshal_spec.specs.format.Token.{block, leaf}
use Rattle.marshal_heap.specs.heap.Heap.{object_at, fields_of, object_words, position, word_of, IsHeap, IsSmall, IsOfKind, IsFieldWord}
use Rattle.marshal_heap.specs.heap.ObjectWords.{header_of}
use Rattle.marshal_heap.proofs.heap.HeapPositionLemmas.{position-next, position_grows, position_inside}
use Rattle.marshal_heap.specs.declared.heap.Kind.TheVariants as kinds
use Rattle.marshal_heap.proofs.heap.HeapReadLemmas.{word_of-inj}
use Rattle.marshal_write.specs.write.WriteStep.{object_token}
use Rattle.marshal_write.specs.write.WriteWalk.{IsFrame, IsOuter, Takes, fields_left, left_in}
use Rattle.marshal_write.proofs.write.WriterEndLemmas.{no_list}
use Rattle.marshal_write.proofs.write.WriterWalkLemmas.{drop_next}
use Rattle.marshal_write.specs.declared.write.write_walk.RemainingFields.{RemainingFields}

pub left_in-push : (g : List Obj) (frames : List RemainingFields) (frame : RemainingFields) → left_in g (frames ++ frame ∷ []) ≡ fields_left g frame ++ left_in g frames
left_in-push g [] frame = sym (append-nil (fields_left g frame))
left_in-push g (f ∷ frames) frame =
    ap (λ vs. vs ++ fields_left g f) (left_in-push g frames frame) ∙ append_assoc (fields_left g frame) (left_in g frames) (fields_left g f)

-- The word of the frame's next field is taken, and the frame `new` has the other remaining fields.
pub record IsTaken (g : List Obj) (frame new : RemainingFields) (word : ℕ) : Type 0 where
  pub value : Val
  pub is : fields_left g frame ≡ value ∷ fields_left g new
  pub valid : IsValue (length g) value
  pub word_is : word ≡ word_of g value
  pub is_frame : IsFrame g new

first_same : {X : Type 0} (x y : X) (xs ys : List X) → x ∷ xs ≡ y ∷ ys → (x ≡ y) × (xs ≡ ys)
first_same x y xs ys is = (cc, cc)

pub taken : (g : List Obj) (frame new : RemainingFields) (word : ℕ) → IsFrame g frame → new.block ≡ frame.block → frame.rest.now ≡ word ∷ new.rest.now → IsTaken g frame new word
taken g frame new word is same split = from (fields_left g frame) refl where
  from : (left : List Val) → fields_left g frame ≡ left → IsTaken g frame new word
  from [] e = absurd (no_list word new.rest.now (sym split ∙ is.words ∙ ap (map (word_of g)) e))
  from (v ∷ vs) e =
      let fs = fields_of (object_at g frame.block) in
      let n = length fs - length frame.rest.now in
      let parts = first_same word (word_of g v) new.rest.now (map (word_of g) vs) (sym split ∙ is.words ∙ ap (map (word_of g)) e) in
      let d = drop_next n fs v vs e in
      let long : length frame.rest.now ≡ length new.rest.now + 1 = omega (arith, ap length split) in
      let few : length frame.rest.now ≤ length fs = omega (arith, ap length is.words, length-map (fields_left g frame) (word_of g), length-drop n fs) in
      let position : length fs - length new.rest.now ≡ n + 1 = omega arith in
      let after : fields_left g new ≡ vs = rw same (ap (λ m. drop m fs) position ∙ d.after) in
      let all : All (IsValue (length g)) (v ∷ vs) = subst (All (IsValue (length g))) e is.valid in record {
        value = v;
        is = e ∙ ap (λ us. v ∷ us) (sym after);
        valid = All-head (IsValue (length g)) v vs all;
        word_is = parts.0;
        is_frame = record {
          words = parts.1 ∙ ap (map (word_of g)) (sym after);
          valid = subst (All (IsValue (length g))) (sym after) (All-tail (IsValue (length g)) v vs all);
        };
      }

pub take_some : (g : List Obj) (frame new : RemainingFields) (word : ℕ) → IsFrame g frame → new.block ≡ frame.block → frame.rest.now ≡ word ∷ new.rest.now → Takes g (fields_left g frame) (fields_left g new) (Some word)
take_some g frame new word is same split = let t = taken g frame new word is same split in (t.value, t.is, t.valid, t.word_is)

-- If `word` is taken from the remaining values, then `word` is also taken if more values follow.
pub takes_more : (g : List Obj) (old new more : List Val) (word : ℕ) → Takes g old new (Some word) → Takes g (old ++ more) (new ++ more) (Some word)
takes_more g old new more word takes = (takes.0, ap (λ vs. vs ++ more) takes.1, takes.2, takes.3)

-- If a frame is an outer block, then the next value of the last frame is the next value of all
-- frames.
pub outer_takes : (g : List Obj) (frames : List RemainingFields) (frame : RemainingFields) (new : List Val) (result : Option ℕ) → IsOuter g frame → Takes g (fields_left g frame) new result
    → Takes g (left_in g (frames ++ frame ∷ [])) (new ++ left_in g frames) result
outer_takes g frames frame new None outer takes = absurd (omega (arith, outer.1, ap length (outer.0.words ∙ ap (map (word_of g)) takes.0)))
outer_takes g frames frame new (Some word) outer takes =
    subst (λ vs. Takes g vs (new ++ left_in g frames) (Some word)) (sym (left_in-push g frames frame)) (takes_more g (fields_left g frame) new (left_in g frames) word takes)

-- If the taken word is the word of a value, then the value is the first remaining value.
pub value_taken : (g : List Obj) (old new : List Val) (word : ℕ) (v : Val) → IsHeap g → Takes g old new (Some word) → word ≡ word_of g v → IsValue (length g) v → old ≡ v ∷ new
value_taken g old new word v heap takes is valid = takes.1 ∙ ap (λ u. u ∷ new) (word_of-inj g takes.0 v heap.is_graph takes.2 valid (sym takes.3 ∙ is))

pub some_words : (ws : List ℕ) → (length ws == 0) ≡ false → 0 < length ws
some_words [] e = absurd (cc)
some_words (w ∷ ws) e = omega arith

pub no_word : (ws : List ℕ) → (length ws == 0) ≡ true → ws ≡ []
no_word [] e = refl
no_word (w ∷ ws) e = absurd (omega (arith, eqb-true (length (w ∷ ws)) 0 e))

-- If all frames are outer blocks, then the last frame and the frames before it are outer blocks.
pub frames_split : (g : List Obj) (frames : List RemainingFields) (frame : RemainingFields) → All (IsOuter g) (frames ++ frame ∷ []) → All (IsOuter g) frames × IsOuter g frame
frames_split g [] frame all = (All-nil (IsOuter g), All-head (IsOuter g) frame [] all)
frames_split g (f ∷ frames) frame all =
    let rest = frames_split g frames frame (All-tail (IsOuter g) f (frames ++ frame ∷ []) all) in
    (All-cons (IsOuter g) f frames (All-head (IsOuter g) f (frames ++ frame ∷ []) all) rest.0, rest.1)

-- ---- the value of a word

-- If a word equals the word for the position of an object's header, then the word is a reference to
-- the object.
at_value : (g : List Obj) (m word : ℕ) (v : Val) → IsHeap g → IsValue (length g) v → word ≡ word_of g v → word ≡ 8 * position g m → m < length g
at_value g m word (vals.Int (pos n)) heap valid is here = absurd (omega (arith, is, here))
at_value g m word (vals.Int (negsuc n)) heap valid is here = absurd (omega (arith, is, here, valid))
at_value g m word (vals.Atom tag) heap valid is here = absurd (omega (arith, is, here))
at_value g m word (vals.Ref k) heap valid is here =
    let same : position g k ≡ position g m = omega (arith, is, here) in
    elim (cases_order k m) [
      | inl e ↦ subst (λ n. n < length g) e valid
      | inr s ↦ elim s [
        | inl less ↦ absurd (omega (arith, same, position_grows g k m heap.is_graph less valid))
        | inr more ↦ absurd (omega (arith, same, position_grows g m k heap.is_graph more (omega (arith, more, valid))))
      ]
    ]

pub at_position : (g : List Obj) (m word : ℕ) → IsHeap g → IsFieldWord g word → word ≡ 8 * position g m → m < length g
at_position g m word heap field here = at_value g m word field.0 heap field.1 field.2 here

-- ---- headers

-- If the tag in an object's header is below 244, then the header states the tag and size of a
-- block.
pub header_block : (n header : ℕ) (o : Obj) → IsObject n o → header ≡ header_of o → header % 1024 < 244 → IsOfKind (kinds.Block (header % 1024) (header / 1024)) o
header_block n header (objects.Block tag values) valid is low =
    let same : header % 1024 ≡ tag = omega (arith, is, valid.0) in
    let many : header / 1024 ≡ length values = omega (arith, is, valid.0) in (ap (λ t. objects.Block t values) (sym same), many)
header_block n header (objects.Bytes bytes) valid is low = absurd (omega (arith, is, low))
header_block n header (objects.Double bits) valid is low = absurd (omega (arith, is, low))
header_block n header (objects.Doubles all) valid is low = absurd (omega (arith, is, low))
header_block n header (objects.I32 z) valid is low = absurd (omega (arith, is, low))
header_block n header (objects.I64 z) valid is low = absurd (omega (arith, is, low))
header_block n header (objects.Native z) valid is low = absurd (omega (arith, is, low))

-- If the tag in an object's header is at least 244, then the object has no fields.
pub header_leaf : (n header : ℕ) (o : Obj) → IsObject n o → header ≡ header_of o → 244 ≤ header % 1024 → (object_token o ≡ leaf o) × (fields_of o ≡ [])
header_leaf n header (objects.Block tag values) valid is high = absurd (omega (arith, is, high, valid.0))
header_leaf n header (objects.Bytes bytes) valid is high = (refl, refl)
header_leaf n header (objects.Double bits) valid is high = (refl, refl)
header_leaf n header (objects.Doubles all) valid is high = (refl, refl)
header_leaf n header (objects.I32 z) valid is high = (refl, refl)
header_leaf n header (objects.I64 z) valid is high = (refl, refl)
header_leaf n header (objects.Native z) valid is high = (refl, refl)

-- The header of an object determines the number of the object's words.
pub header_words : (n header : ℕ) (o : Obj) → IsObject n o → header ≡ header_of o → header / 1024 + 1 ≡ object_words o
header_words n header (objects.Block tag values) valid is = omega (arith, is, valid.0)
header_words n header (objects.Bytes bytes) valid is = omega (arith, is)
header_words n header (objects.Double bits) valid is = omega (arith, is)
header_words n header (objects.Doubles all) valid is = omega (arith, is)
header_words n header (objects.I32 z) valid is = omega (arith, is)
header_words n header (objects.I64 z) valid is = omega (arith, is)
header_words n header (objects.Native z) valid is = omega (arith, is)

pub object_is : (g : List Obj) (k : ℕ) → IsHeap g → k < length g → IsObject (length g) (object_at g k)
object_is g k heap inside = heap.is_graph k (objects.I32 (pos 0)) inside

-- The word of the next object is the word of an object plus 8 for each of the object's words.
pub next_position : (g : List Obj) (k word header : ℕ) → IsHeap g → k < length g → word ≡ word_of g (vals.Ref k) → header ≡ header_of (object_at g k)
    → word + 8 * (header / 1024 + 1) ≡ 8 * position g (k + 1)
next_position g k word header heap inside is header_is =
    omega (arith, is, position-next g k inside, header_words (length g) header (object_at g k) (object_is g k heap inside) header_is)

pub next_small : (g : List Obj) (k : ℕ) → IsHeap g → k < length g → 8 * position g (k + 1) < 2 ^ 64
next_small g k heap inside = omega (arith, position-next g k inside, position_inside g k heap.is_graph inside, heap.words)

-- ---- a block that is opened

pub record IsHeldBlock (tag size : ℕ) : Type 0 where
  pub low : tag ≤ 243
  pub some : 0 < size
  pub small : size < 2 ^ 54

pub held_block : (g : List Obj) (k tag size : ℕ) → IsHeap g → k < length g → IsOfKind (kinds.Block tag size) (object_at g k) → IsHeldBlock tag size
held_block g k tag size heap inside kind =
    let h : IsObject (length g) (objects.Block tag (fields_of (object_at g k))) = subst (IsObject (length g)) kind.0 (heap.is_graph k (objects.I32 (pos 0)) inside) in
    let s : IsSmall (objects.Block tag (fields_of (object_at g k))) = subst IsSmall kind.0 (heap.small k (objects.I32 (pos 0)) inside) in
    record { low = h.0; some = omega (arith, kind.1, h.1); small = omega (arith, kind.1, s) }

pub record IsBegun (g : List Obj) (k : ℕ) (frame : RemainingFields) : Type 0 where
  pub left : fields_left g frame ≡ fields_of (object_at g k)
  pub is_frame : IsFrame g frame

pub block_begun : (g : List Obj) (k : ℕ) (frame : RemainingFields) → IsHeap g → k < length g → frame.block ≡ k → frame.rest.now ≡ map (word_of g) (fields_of (object_at g k)) → IsBegun g k frame
block_begun g k frame heap inside same words =
    let fs = fields_of (object_at g k) in
    let many : length frame.rest.now ≡ length fs = ap length words ∙ length-map fs (word_of g) in
    let none : length fs - length frame.rest.now ≡ 0 = omega arith in
    let left : fields_left g frame ≡ fs = rw same (ap (λ n. drop n fs) none) in record {
      left = left;
      is_frame = record {
        words = words ∙ ap (map (word_of g)) (sym left);
        valid = subst (All (IsValue (length g))) (sym left) (fields_valid (length g) (object_at g k) (object_is g k heap inside));
      };
    } where
      fields_valid : (n : ℕ) (o : Obj) → IsObject n o → All (IsValue n) (fields_of o)
      fields_valid n (objects.Block tag values) valid = valid.2
      fields_valid n (objects.Bytes bytes) valid = All-nil (IsValue n)
      fields_valid n (objects.Double bits) valid = All-nil (IsValue n)
      fields_valid n (objects.Doubles all) valid = All-nil (IsValue n)
      fields_valid n (objects.I32 z) valid = All-nil (IsValue n)
      fields_valid n (objects.I64 z) valid = All-nil (IsValue n)
      fields_valid n (objects.Native z) valid = All-nil (IsValue n)

pub block_token : (g : List Obj) (k tag size : ℕ) → IsOfKind (kinds.Block tag size) (object_at g k) → block tag size ≡ object_token (object_at g k)
block_token g k tag size kind = ap (block tag) kind.1 ∙ sym (ap object_token kind.0)
