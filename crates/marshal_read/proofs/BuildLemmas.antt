-- Properties of a graph that is built from tokens one at a time.
use Rattle.std.proofs.Common.{◌≡◌, ℕ, ◌+◌, ◌-◌, ◌<◌, inl, inr, ◌↔◌, IsSome, List, [], ◌∷◌, ◌++◌, length, map, get_or, All, HoldsAt, Option, Some, None, pos, refl, ap, sym, ◌∙◌, arith, length-append, length-set}
use Rattle.std.proofs.lemmas.List.{length_push, length-replicate, get_or-set_same, get_or-set_other, get_or_append_left, get_or_at}
use Rattle.std.proofs.lemmas.Bool.{cases_eq}
use Rattle.std.proofs.lemmas.List.Elements.{All-nil, All-cons, All-head, All-tail}
use Rattle.std.proofs.lemmas.List.Sums.{fold_push, sum_by-cons}
use Rattle.base_data.specs.declared.model.value.Val.{Val}
use Rattle.base_data.specs.declared.model.value.Val.TheVariants as vals
use Rattle.base_data.specs.declared.model.value.Obj.{Obj}
use Rattle.base_data.specs.declared.model.value.Obj.TheVariants as objs
use Rattle.marshal_spec.specs.format.Words.{objects}
use Rattle.marshal_spec.specs.format.Token.{Token, integer, atom, shared, block, leaf, IsToken, measure_of}
use Rattle.marshal_spec.specs.format.Tree.{made_by, value_of}
use Rattle.marshal_read.specs.Build.{Building, building, start, still_open, advanced, fill, blank, blank_fields, opened, absorb, absorb_all, root_to_come, fields_to_come, to_come, HasSize, IsOpenIn, AreOpen, WellOpen}
use Rattle.marshal_read.specs.declared.graph_builder.PendingBlock.{PendingBlock}
use Rattle.marshal_heap.specs.heap.Heap.{with_field, set_field, word_of}
use Rattle.marshal_heap.proofs.heap.HeapReadLemmas.{word_of-append, word_of-set_field}
use Rattle.marshal_heap.proofs.heap.HeapFieldLemmas.{length-set_field, set_field-append}
use Rattle.marshal_spec.proofs.format.Counts.{length-object_of, objects-tokens-cons}
use Rattle.marshal_read.proofs.ReaderFieldLemmas.{still_open_below, still_open_full}

-- ---- open blocks stay open

HasSize-with_field : (size i : ℕ) (v : Val) (o : Obj) → HasSize size o → HasSize size (with_field o i v)
HasSize-with_field size i v (objs.Block tag values) h = length-set values i v ∙ h
HasSize-with_field size i v (objs.Bytes bytes) h = h
HasSize-with_field size i v (objs.Double bits) h = h
HasSize-with_field size i v (objs.Doubles all) h = h
HasSize-with_field size i v (objs.I32 z) h = h
HasSize-with_field size i v (objs.I64 z) h = h
HasSize-with_field size i v (objs.Native z) h = h

-- If a field is set, then each object keeps its size.
HasSize-set_field : (all : List Obj) (size k b i : ℕ) (v : Val) → k < length all → HoldsAt (HasSize size) all k → HoldsAt (HasSize size) (set_field all b i v) k
HasSize-set_field all size k b i v h p d =
    let old : Obj = get_or all b (objs.I32 (pos 0)) in
    elim (cases_eq k b) [
      | inl e ↦
          let l : b < length all = omega arith in
          let q : HasSize size (with_field old i v) = HasSize-with_field size i v old (rw e at (p (objs.I32 (pos 0)))) in
          rw (e, get_or-set_same all b (with_field old i v) d) q
      | inr ne ↦ rw (get_or-set_other all b k (with_field old i v) d ne) (p d)
    ]

IsOpenIn-set_field : (all : List Obj) (b i : ℕ) (v : Val) (o : PendingBlock) → IsOpenIn all o → IsOpenIn (set_field all b i v) o
IsOpenIn-set_field all b i v o h = record {
  object = rw length-set_field h.object;
  next = h.next;
  size = HasSize-set_field all o.size o.object b i v h.object h.size;
  at = h.at ∙ sym (word_of-set_field all b i v (vals.Ref o.object));
}

-- If objects are appended, then an open block stays open.
IsOpenIn-append : (xs ys : List Obj) (o : PendingBlock) → IsOpenIn xs o → IsOpenIn (xs ++ ys) o
IsOpenIn-append xs ys o h = record {
  object = let l = length-append xs ys in let k = h.object in omega arith;
  next = h.next;
  size = λ d. rw (get_or_append_left xs ys d o.object h.object) (h.size d);
  at = h.at ∙ sym (word_of-append xs ys (vals.Ref o.object) h.object);
}

AreOpen-in : (xs ys : List Obj) → ((o : PendingBlock) → IsOpenIn xs o → IsOpenIn ys o) → (bs : List PendingBlock) → AreOpen xs bs → AreOpen ys bs
AreOpen-in xs ys f [] h = tt
AreOpen-in xs ys f (b ∷ outer) h = (f b h.0, h.1, AreOpen-in xs ys f outer h.2)

pub AreOpen-set_field : (all : List Obj) (b i : ℕ) (v : Val) (bs : List PendingBlock) → AreOpen all bs → AreOpen (set_field all b i v) bs
AreOpen-set_field all b i v bs h = AreOpen-in all (set_field all b i v) (IsOpenIn-set_field all b i v) bs h

pub AreOpen-append : (xs ys : List Obj) (bs : List PendingBlock) → AreOpen xs bs → AreOpen (xs ++ ys) bs
AreOpen-append xs ys bs h = AreOpen-in xs (xs ++ ys) (IsOpenIn-append xs ys) bs h

-- If the innermost block receives a field, then the blocks that are not full stay open.
AreOpen-still_open : (all : List Obj) (b : PendingBlock) (outer : List PendingBlock) → AreOpen all (b ∷ outer) → AreOpen all (still_open (advanced b 1) outer)
AreOpen-still_open all b outer h =
    let k = h.0.next in
    elim (cases_eq (b.next + 1) b.size) [
      | inl e ↦ rw (still_open_full (advanced b 1) outer e) h.2
      | inr ne ↦ rw (still_open_below (advanced b 1) outer (omega arith))
          (record { object = h.0.object; next = omega arith; size = h.0.size; at = h.0.at }, h.1, h.2)
    ]

-- The numbers of the open blocks' objects are below the number of objects.
all_below : (all : List Obj) (bs : List PendingBlock) (c : ℕ) → length all ≡ c → AreOpen all bs → All (λ o. o.object < c) bs
all_below all [] c e h = All-nil (λ o. o.object < c)
all_below all (b ∷ outer) c e h = All-cons (λ o. o.object < c) b outer (let k = h.0.object in omega arith) (all_below all outer c e h.2)

-- If a token is added, then the block that the token opens is open, and the other blocks stay open.
AreOpen-opened : (t : Token) (all : List Obj) (bs : List PendingBlock) (c at : ℕ) → IsToken t → length all ≡ c → at ≡ word_of (all ++ blank t) (vals.Ref c) → AreOpen all bs
    → AreOpen (all ++ blank t) (opened t c at ++ bs)
AreOpen-opened (integer z) all bs c at h e w k = AreOpen-append all [] bs k
AreOpen-opened (atom tag) all bs c at h e w k = AreOpen-append all [] bs k
AreOpen-opened (shared offset) all bs c at h e w k = AreOpen-append all [] bs k
AreOpen-opened (block tag size) all bs c at h e w k =
    let o : Obj = objs.Block tag (blank_fields (block tag size)) in
    let p : 0 < size = h.1 in (
      record {
        object = let l = length_push all o in omega arith;
        next = p;
        size = λ d. rw (get_or_at all o [] d c e) (length-replicate size (vals.Int (pos 0)));
        at = w;
      },
      all_below all bs c e k,
      AreOpen-append all (o ∷ []) bs k,
    )
AreOpen-opened (leaf o) all bs c at h e w k = AreOpen-append all (o ∷ []) bs k

-- ---- a step preserves the open blocks

keeps_open : (all : List Obj) (bs : List PendingBlock) (r : Option Val) (t : Token) → IsToken t → AreOpen all bs
    → AreOpen (absorb (building all bs r) t).objects (absorb (building all bs r) t).open_blocks
keeps_open all [] r t h k = AreOpen-opened t all [] (length all) (word_of (all ++ blank t) (vals.Ref (length all))) h refl refl tt
keeps_open all (b ∷ outer) r t h k =
    let v : Val = value_of t (length all) in
    let xs : List Obj = set_field all b.object b.next v in
    let at : ℕ = word_of (all ++ blank t) (vals.Ref (length all)) in
    let same : at ≡ word_of (set_field (all ++ blank t) b.object b.next v) (vals.Ref (length all)) = sym (word_of-set_field (all ++ blank t) b.object b.next v (vals.Ref (length all))) in
    let moved : at ≡ word_of (xs ++ blank t) (vals.Ref (length all)) = rw (← set_field-append all (blank t) b.object b.next v k.0.object) same in
    rw (set_field-append all (blank t) b.object b.next v k.0.object)
    (AreOpen-opened t xs (still_open (advanced b 1) outer) (length all) at h (length-set_field all b.object b.next v) moved
    (AreOpen-still_open xs b outer (AreOpen-set_field all b.object b.next v (b ∷ outer) k)))

keeps_root : (all : List Obj) (bs : List PendingBlock) (r : Option Val) (t : Token) → (r ≡ None → bs ≡ []) → (absorb (building all bs r) t).root ≡ None → ⊥
keeps_root all [] r t h e = cc
keeps_root all (b ∷ outer) r t h e = let k = h e in cc

pub WellOpen-absorb : (state : Building) (t : Token) → IsToken t → WellOpen state → WellOpen (absorb state t)
WellOpen-absorb state t h k = record {
  are_open = keeps_open state.objects state.open_blocks state.root t h k.are_open;
  rooted = λ e. absurd (keeps_root state.objects state.open_blocks state.root t k.rooted e);
}

no_blocks : (b : PendingBlock) (outer : List PendingBlock) → b ∷ outer ≡ [] → ⊥
no_blocks b outer e = cc

pub WellOpen-fill : (v : Val) (all : List Obj) (bs : List PendingBlock) (r : Option Val) → WellOpen (building all bs r) → WellOpen (fill v all bs r)
WellOpen-fill v all [] r h = record { are_open = tt; rooted = λ e. refl }
WellOpen-fill v all (b ∷ outer) r h = record {
  are_open = AreOpen-still_open (set_field all b.object b.next v) b outer (AreOpen-set_field all b.object b.next v (b ∷ outer) h.are_open);
  rooted = λ e. absurd (no_blocks b outer (h.rooted e));
}

pub WellOpen-start : WellOpen start
WellOpen-start = record { are_open = tt; rooted = λ e. refl }

-- ---- the number of pending values

to_come_cons : (b : PendingBlock) (bs : List PendingBlock) → fields_to_come (b ∷ bs) ≡ (b.size - b.next) + fields_to_come bs
to_come_cons b bs = sum_by-cons (λ o. o.size - o.next) b bs

-- ---- the number of objects

length_fill : (v : Val) (all : List Obj) (bs : List PendingBlock) (r : Option Val) → length (fill v all bs r).objects ≡ length all
length_fill v all [] r = refl
length_fill v all (b ∷ outer) r = length-set_field all b.object b.next v

pub length-absorb : (state : Building) (t : Token) → IsToken t → length (absorb state t).objects ≡ length state.objects + made_by t
length-absorb state t h =
    length_fill (value_of t (length state.objects)) (state.objects ++ blank t) state.open_blocks state.root
    ∙ length-append state.objects (blank t)
    ∙ ap (λ n. length state.objects + n) (length-object_of t (blank_fields t) h)

pub length-absorb_all : (state : Building) (ts : List Token) → All IsToken ts → length (absorb_all state ts).objects ≡ length state.objects + objects (map measure_of ts)
length-absorb_all state [] h = omega arith
length-absorb_all state (t ∷ ts) h =
    let a = length-absorb state t (All-head IsToken t ts h) in
    let b = length-absorb_all (absorb state t) ts (All-tail IsToken t ts h) in
    let c = objects-tokens-cons t ts in
    omega arith

-- ---- tokens one at a time

pub absorb_all_push : (state : Building) (ts : List Token) (t : Token) → absorb_all state (ts ++ t ∷ []) ≡ absorb (absorb_all state ts) t
absorb_all_push state ts t = fold_push absorb state ts t

pub length-from_start : (ts : List Token) → All IsToken ts → length (absorb_all start ts).objects ≡ objects (map measure_of ts)
length-from_start ts h = let l = length-absorb_all start ts h in omega arith

-- ---- the end

-- If no field is pending, then no block is open.
all_full : (all : List Obj) (bs : List PendingBlock) → AreOpen all bs → fields_to_come bs ≡ 0 → bs ≡ []
all_full all [] h e = refl
all_full all (b ∷ outer) h e = let s = to_come_cons b outer in let k = h.0.next in absurd (omega arith)

root_is_there : (r : Option Val) → IsSome r → root_to_come r ≡ 0
root_is_there None e = cc
root_is_there (Some v) e = refl

root_came : (r : Option Val) → root_to_come r ≡ 0 → IsSome r
root_came None e = absurd (omega arith)
root_came (Some v) e = refl

-- If the root is read and no block is open, then no value is pending.
pub to_come-done : (state : Building) → IsSome state.root → state.open_blocks ≡ [] → to_come state ≡ 0
to_come-done state k e = let r = root_is_there state.root k in rw e (omega arith)

-- If no value is pending, then the root is read and no block is open.
pub done-to_come : (state : Building) → WellOpen state → to_come state ≡ 0 → IsSome state.root × (state.open_blocks ≡ [])
done-to_come state w e =
    (root_came state.root (omega arith), all_full state.objects state.open_blocks w.are_open (omega arith))

-- If the root is read, then no block is open if and only if no value is pending.
pub ends : (state : Building) → WellOpen state → IsSome state.root → (state.open_blocks ≡ []) ↔ (to_come state ≡ 0)
ends state w k = (to_come-done state k, λ e. (done-to_come state w e).1)
