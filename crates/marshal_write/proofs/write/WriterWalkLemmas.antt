-- Lemmas on a walk from token to token.
use Rattle.std.proofs.Common.{ℕ, zero, suc, ◌≡◌, ◌≢◌, ◌==◌, true, false, cond, eqb, eqb-true, ◌+◌, ◌-◌, ◌<◌, ◌≤◌, ◌∙◌, replicate, length-drop, List, [], ◌∷◌, ◌++◌, length, map, drop, Some, refl, sym, ap, subst, arith, inl, inr, append-nil, add-one, get_or, length-set, get_or-set_same, get_or-set_other, ℤ}
use Rattle.std.specs.Prelude.{All, slice_get, slice_index, slice_set, vec_len, vec_capacity}
use Rattle.std.proofs.lemmas.Bool.{cases_Bool}
use Rattle.std.proofs.lemmas.List.{length-replicate, drop_all}
use Rattle.std.proofs.lemmas.List.Elements.{All-nil}
use Rattle.std.proofs.lemmas.Option.{same_Some, slice_get_within}
use Rattle.std.proofs.lemmas.Slice.Zip.{AllZip-long}
use Rattle.base_data.proofs.model.Lists.{slice_index-zeros}
use Rattle.base_data.proofs.model.Options.{same_or_not}
use Rattle.base_data.specs.declared.model.value.Val.{Val}
use Rattle.base_data.specs.declared.model.value.Val.TheVariants as vals
use Rattle.base_data.specs.declared.model.value.Obj.{Obj}
use Rattle.base_data.specs.model.Graph.{IsValue}
use Rattle.marshal_spec.specs.format.Token.{Token, integer, atom, shared}
use Rattle.marshal_spec.specs.format.Isomorphism.{IsTreeOf}
use Rattle.marshal_spec.specs.format.Tree.{Tree, Forest, node, none, more, tokens, forest_tokens, objects_of, all_objects}
use Rattle.marshal_spec.specs.canonical.Numbering.{AreDistinct, IsNumbering, Shows}
use Rattle.marshal_spec.proofs.canonical.Walk.{numbering}
use Rattle.marshal_heap.specs.heap.Heap.{object_at, fields_of, IsHeap, position, word_of}
use Rattle.marshal_heap.proofs.heap.HeapPositionLemmas.{position-zero}
use Rattle.marshal_write.specs.write.WriteStep.{object_token}
use Rattle.marshal_write.specs.write.Marks.{in_order, marks_of}
use Rattle.marshal_write.specs.write.WriteWalk.{AreMarked, AreInOrder, AreLeft, IsAt, IsWalk, IsFrame, fields_left, left_of, pending}
use Rattle.marshal_write.specs.declared.write.write_walk.RemainingFields.{RemainingFields}
use Rattle.marshal_write.proofs.write.WriterMarkLemmas.{met_in_order}
use Rattle.marshal_write.specs.declared.write.marks.Marks.{Marks}
use Rattle.marshal_write.specs.declared.write.write_walk.WriteWalk.{WriteWalk}
use Rattle.marshal_write.proofs.write.WriterLeftLemmas.{Goes, nothing_left, integer_next, atom_next, object_next, reference_next}

-- ---- marks

pub mark_more : (g : List Obj) (ks : List ℕ) (c k : ℕ) (marks : List ℕ) → AreDistinct ks → slice_get ks c ≡ Some k → k < length g → AreMarked g ks c marks → AreMarked g ks (c + 1) (slice_set marks k (c + 1))
mark_more g ks c k marks distinct at_c inside marked =
    let within : k < length marks = rw marked.size inside in record {
      size = length-set marks k (c + 1) ∙ marked.size;
      found = λ i m less is. elim (same_or_not i c) [
        | inl here ↦
            let same : m ≡ k = same_Some m k (sym (rw here at is) ∙ at_c) in
            let at_k : get_or (slice_set marks k (c + 1)) k 0 ≡ c + 1 = get_or-set_same marks k (c + 1) 0 within in
            rw (same, here) (at_k ∙ add-one c)
        | inr before ↦
            let other : m ≢ k = λ same. before (distinct i c m is (rw same at_c)) in
            let at_m : get_or (slice_set marks k (c + 1)) m 0 ≡ get_or marks m 0 = get_or-set_other marks k m (c + 1) 0 other in
            at_m ∙ marked.found i m (omega arith) is
      ];
      named = λ i m is. elim (same_or_not m k) [
        | inl same ↦
            let at_k : get_or (slice_set marks k (c + 1)) k 0 ≡ c + 1 = get_or-set_same marks k (c + 1) 0 within in
            let here : c + 1 ≡ suc i = sym at_k ∙ rw same at is in
            let e : i ≡ c = omega arith in
            (omega arith, rw (e, same) at_c)
        | inr other ↦
            let at_m : get_or (slice_set marks k (c + 1)) m 0 ≡ get_or marks m 0 = get_or-set_other marks k m (c + 1) 0 other in
            let r = marked.named i m (sym at_m ∙ is) in (omega (arith, r.0), r.1)
      ];
    }

no_marks : (g : List Obj) (ks : List ℕ) → AreMarked g ks 0 (replicate (length g) 0)
no_marks g ks = record {
  size = length-replicate (length g) 0;
  found = λ i k less is. absurd (omega arith);
  named = λ i k is. absurd (omega (arith, slice_index-zeros (length g) k));
}

-- The mark of an object is at most the number of visited objects.
pub marks_behind : (g : List Obj) (ks : List ℕ) (c k : ℕ) (marks : List ℕ) → AreMarked g ks c marks → slice_index marks k ≤ c
marks_behind g ks c k marks marked = behind (slice_index marks k) refl where
  behind : (m : ℕ) → slice_index marks k ≡ m → m ≤ c
  behind zero e = omega arith
  behind (suc i) e = omega (arith, (marked.named i k e).0)

-- ---- the first token

-- The frame has no remaining words.
pub record IsEmpty (g : List Obj) (frame : RemainingFields) : Type 0 where
  pub nothing : fields_left g frame ≡ []
  pub is_frame : IsFrame g frame

pub no_words : (g : List Obj) (frame : RemainingFields) → frame.rest.now ≡ [] → IsEmpty g frame
no_words g frame empty =
    let fs = fields_of (object_at g frame.block) in
    let nothing : fields_left g frame ≡ [] = drop_all (length fs - length frame.rest.now) fs (omega (arith, ap length empty)) in record {
      nothing = nothing;
      is_frame = record { words = empty ∙ sym (ap (map (word_of g)) nothing); valid = subst (All (IsValue (length g))) (sym nothing) (All-nil (IsValue (length g))) };
    }

-- The numbers of the objects of each tree of the root, in the order of the tree's tokens. If the
-- walk is repeated and the marks are ordered, then the numbers are in order.
abbrev pub Numbers : List Obj → WriteWalk → Type 0
Numbers g walk = (tree : Tree) → IsTreeOf g walk.root tree
    → (ks : List ℕ) × IsNumbering g walk.root tree ks × (walk.again ≡ true → walk.marks.ordered ≡ true → AreInOrder ks)

pub start_walk : (g : List Obj) (walk : WriteWalk) → IsHeap g → IsValue (length g) walk.root → walk.given ≡ 0 → walk.count ≡ 0 → walk.next ≡ 0 → walk.last.rest.now ≡ [] → walk.frames.items ≡ [] → vec_len walk.frames ≡ 0
    → marks_of walk.marks ≡ replicate (length g) 0 → walk.marks.met ≡ 0 → length g ≤ vec_capacity walk.frames → Numbers g walk → IsWalk g walk
start_walk g walk heap value given count next last frames depth marks met room numbers = record {
  heap = heap;
  value = value;
  last = (no_words g walk.last last).is_frame;
  frames = rw frames (λ k d less. absurd (omega arith));
  depth = omega arith;
  marks = ap length marks ∙ length-replicate {A = ℕ} (length g) 0;
  met = λ ordered. met ∙ sym count;
  next = λ ordered. omega (arith, next, count, ap (position g) count, position-zero g);
  room = room;
  at = λ tree is_of.
      let n = numbers tree is_of in
      let left : AreLeft tree n.0 0 (more tree none) (walk.root ∷ []) = record {
        are_trees = (is_of.is_tree, tt);
        back = (is_of.refers_back, tt);
        objects = sym (append-nil (objects_of tree 0));
        agree = (n.1.value, tt);
      } in record {
        ks = n.0;
        numbering = n.1;
        forest = more tree none;
        tokens_left = rw given (sym (append-nil (tokens tree)));
        within = omega arith;
        left = subst (λ m. AreLeft tree n.0 m (more tree none) (pending g walk)) (sym count)
            (subst (AreLeft tree n.0 0 (more tree none)) (sym (only_root g walk given last frames)) left);
        marked = rw (count, marks) (no_marks g n.0);
        order = n.2;
      };
} where
  only_root : (g : List Obj) (walk : WriteWalk) → walk.given ≡ 0 → walk.last.rest.now ≡ [] → walk.frames.items ≡ [] → pending g walk ≡ walk.root ∷ []
  only_root g walk given last frames = rw (given, (no_words g walk.last last).nothing, frames) refl

-- Before the first token of a first walk, the invariant of the walk holds.
pub first_walk : (g : List Obj) (walk : WriteWalk) → IsHeap g → IsValue (length g) walk.root → walk.given ≡ 0 → walk.count ≡ 0 → walk.next ≡ 0 → walk.last.rest.now ≡ [] → walk.frames.items ≡ [] → vec_len walk.frames ≡ 0
    → marks_of walk.marks ≡ replicate (length g) 0 → walk.marks.met ≡ 0 → length g ≤ vec_capacity walk.frames → walk.again ≡ false → IsWalk g walk
first_walk g walk heap value given count next last frames depth marks met room first =
    start_walk g walk heap value given count next last frames depth marks met room (λ tree is_of.
    let n = numbering g walk.root tree heap.is_graph value is_of in (n.0, n.1, λ again. absurd (not_both (sym again ∙ first)))) where
      not_both : true ≡ false → ⊥
      not_both e = cc

-- ---- the next token

pub record IsDropped {X : Type 0} (n : ℕ) (xs : List X) (x : X) (ys : List X) : Type 0 where
  pub at_n : slice_get xs n ≡ Some x
  pub after : drop (n + 1) xs ≡ ys
  pub within : n < length xs

pub drop_next : {X : Type 0} (n : ℕ) (xs : List X) (x : X) (ys : List X) → drop n xs ≡ x ∷ ys → IsDropped n xs x ys
drop_next zero [] x ys is = absurd (cc)
drop_next zero (y ∷ xs) x ys is = record { at_n = cc; after = cc; within = omega arith }
drop_next (suc n) [] x ys is = absurd (cc)
drop_next (suc n) (y ∷ xs) x ys is = let r = drop_next n xs x ys is in let position : suc n + 1 ≡ suc (n + 1) = omega arith in record {
  at_n = r.at_n;
  after = rw position r.after;
  within = omega (arith, r.within);
}

not_same : (a b : ℕ) → a ≢ b → (a == b) ≡ false
not_same a b other = elim (cases_Bool (eqb a b)) [ inl e ↦ absurd (other (eqb-true a b e)) | inr e ↦ e ]

-- The walk `new` is the walk `walk` after one more token.
pub record Advances (g : List Obj) (tree : Tree) (walk new : WriteWalk) (token : Token) : Type 0 where
  pub at_given : slice_get (tokens tree) walk.given ≡ Some token
  pub more_given : walk.given < length (tokens tree)
  pub at : IsAt g tree new

nothing_at_root : (g : List Obj) (walk : WriteWalk) (n : ℕ) → walk.given ≡ n + 1 → pending g walk ≡ left_of g walk
nothing_at_root g walk n given =
    let test : (walk.given == 0) ≡ false = not_same walk.given 0 (λ same. omega (arith, given)) in
    ap (λ b. cond b (walk.root ∷ []) [] ++ left_of g walk) test

-- If the walk has returned a token, then the remaining values are the remaining fields of the
-- frames.
pub later : (g : List Obj) (walk : WriteWalk) → walk.given ≢ 0 → pending g walk ≡ left_of g walk
later g walk other = ap (λ b. cond b (walk.root ∷ []) [] ++ left_of g walk) (not_same walk.given 0 other)

advance : (g : List Obj) (tree : Tree) (walk new : WriteWalk) (token : Token) (at : IsAt g tree walk) → new.root ≡ walk.root → new.given ≡ walk.given + 1
    → Goes tree at.ks walk.count at.forest token new.count (left_of g new) → AreMarked g at.ks new.count (marks_of new.marks) → new.again ≡ walk.again
    → (new.marks.ordered ≡ true → walk.marks.ordered ≡ true) → Advances g tree walk new token
advance g tree walk new token at root given goes marked again was =
    let next = drop_next walk.given (tokens tree) token (forest_tokens goes.rest) (at.tokens_left ∙ goes.tokens_are) in record {
      at_given = next.at_n;
      more_given = next.within;
      at = record {
        ks = at.ks;
        numbering = subst (λ v. IsNumbering g v tree at.ks) (sym root) at.numbering;
        forest = goes.rest;
        tokens_left = rw given next.after;
        within = omega (arith, next.within);
        left = subst (AreLeft tree at.ks new.count goes.rest) (sym (nothing_at_root g new walk.given given)) goes.left;
        marked = marked;
        order = λ known ordered. at.order (sym again ∙ known) (was ordered);
      };
    }

-- The parts of a walk that a step leaves unchanged.
pub record Keeps (walk new : WriteWalk) : Type 0 where
  pub root : new.root ≡ walk.root
  pub given : new.given ≡ walk.given + 1
  pub count : new.count ≡ walk.count
  pub again : new.again ≡ walk.again
  pub marks : new.marks ≡ walk.marks

still_ordered : (walk new : WriteWalk) → Keeps walk new → new.marks.ordered ≡ true → walk.marks.ordered ≡ true
still_ordered walk new keeps ordered = sym (ap (λ (m : Marks). m.ordered) keeps.marks) ∙ ordered

still_marked : (g : List Obj) (ks : List ℕ) (walk new : WriteWalk) → Keeps walk new → AreMarked g ks walk.count (marks_of walk.marks) → AreMarked g ks new.count (marks_of new.marks)
still_marked g ks walk new keeps marked = rw (keeps.count, keeps.marks) marked

pub advance_integer : (g : List Obj) (tree : Tree) (walk new : WriteWalk) (z : ℤ) → IsAt g tree walk → Keeps walk new → pending g walk ≡ vals.Int z ∷ left_of g new → Advances g tree walk new (integer z)
advance_integer g tree walk new z at keeps is =
    let left : AreLeft tree at.ks walk.count at.forest (vals.Int z ∷ left_of g new) = subst (AreLeft tree at.ks walk.count at.forest) is at.left in
    advance g tree walk new (integer z) at keeps.root keeps.given
    (rw keeps.count (integer_next tree at.ks walk.count at.forest z (left_of g new) left))
    (still_marked g at.ks walk new keeps at.marked) keeps.again (still_ordered walk new keeps)

pub advance_atom : (g : List Obj) (tree : Tree) (walk new : WriteWalk) (tag : ℕ) → IsAt g tree walk → Keeps walk new → pending g walk ≡ vals.Atom tag ∷ left_of g new → Advances g tree walk new (atom tag)
advance_atom g tree walk new tag at keeps is =
    let left : AreLeft tree at.ks walk.count at.forest (vals.Atom tag ∷ left_of g new) = subst (AreLeft tree at.ks walk.count at.forest) is at.left in
    advance g tree walk new (atom tag) at keeps.root keeps.given
    (rw keeps.count (atom_next tree at.ks walk.count at.forest tag (left_of g new) left))
    (still_marked g at.ks walk new keeps at.marked) keeps.again (still_ordered walk new keeps)

pub advance_reference : (g : List Obj) (tree : Tree) (walk new : WriteWalk) (k i : ℕ) → IsAt g tree walk → Keeps walk new → slice_index (marks_of walk.marks) k ≡ suc i
    → pending g walk ≡ vals.Ref k ∷ left_of g new → Advances g tree walk new (shared (walk.count - i))
advance_reference g tree walk new k i at keeps mark is =
    let left : AreLeft tree at.ks walk.count at.forest (vals.Ref k ∷ left_of g new) = subst (AreLeft tree at.ks walk.count at.forest) is at.left in
    advance g tree walk new (shared (walk.count - i)) at keeps.root keeps.given
    (rw keeps.count (reference_next g walk.root tree at.ks walk.count k i (marks_of walk.marks) at.forest (left_of g new) at.numbering at.marked mark left))
    (still_marked g at.ks walk new keeps at.marked) keeps.again (still_ordered walk new keeps)

-- The changes to a walk by a step that visits object `k` for the first time.
pub record Enters (g : List Obj) (k : ℕ) (values : List Val) (walk new : WriteWalk) : Type 0 where
  pub root : new.root ≡ walk.root
  pub given : new.given ≡ walk.given + 1
  pub count : new.count ≡ walk.count + 1
  pub again : new.again ≡ walk.again
  pub was : new.marks.ordered ≡ true → walk.marks.ordered ≡ true
  pub marks : marks_of new.marks ≡ slice_set (marks_of walk.marks) k (walk.count + 1)
  pub left : left_of g new ≡ fields_of (object_at g k) ++ values

pub advance_object : (g : List Obj) (tree : Tree) (walk new : WriteWalk) (k : ℕ) (values : List Val) → IsAt g tree walk → Enters g k values walk new → k < length g → slice_index (marks_of walk.marks) k ≡ 0
    → pending g walk ≡ vals.Ref k ∷ values → Advances g tree walk new (object_token (object_at g k))
advance_object g tree walk new k values at enters inside mark is =
    let left : AreLeft tree at.ks walk.count at.forest (vals.Ref k ∷ values) = subst (AreLeft tree at.ks walk.count at.forest) is at.left in
    let meets = object_next g walk.root tree at.ks walk.count k (marks_of walk.marks) at.forest values at.numbering at.marked mark left in
    advance g tree walk new (object_token (object_at g k)) at enters.root enters.given
    (rw (enters.count, enters.left) meets.goes)
    (rw (enters.count, enters.marks) (mark_more g at.ks walk.count k (marks_of walk.marks) at.numbering.distinct meets.at_c inside at.marked)) enters.again enters.was

-- ---- the end

pub all_given : (g : List Obj) (tree : Tree) (walk : WriteWalk) → IsAt g tree walk → pending g walk ≡ [] → walk.given ≡ length (tokens tree)
all_given g tree walk at is =
    let none_left = nothing_left tree at.ks walk.count at.forest (subst (AreLeft tree at.ks walk.count at.forest) is at.left) in
    let gone : length (drop walk.given (tokens tree)) ≡ 0 = ap length (at.tokens_left ∙ none_left) in
    omega (arith, length-drop walk.given (tokens tree), at.within)

-- ---- the order

no_tokens : (f : Forest) → forest_tokens f ≡ [] → f ≡ none
no_tokens none is = refl
no_tokens (more (node t s) f) is = absurd (cc)

-- At the end of a walk, all objects of the tree are visited.
all_met : (g : List Obj) (tree : Tree) (walk : WriteWalk) (at : IsAt g tree walk) → walk.given ≡ length (tokens tree) → length at.ks ≤ walk.count
all_met g tree walk at end =
    let past : drop walk.given (tokens tree) ≡ [] = drop_all walk.given (tokens tree) (omega arith) in
    let no_trees : at.forest ≡ none = no_tokens at.forest (sym at.tokens_left ∙ past) in
    let no_objects : drop walk.count (objects_of tree 0) ≡ [] = at.left.objects ∙ ap (λ f. all_objects f walk.count) no_trees in
    omega (arith, length-drop walk.count (objects_of tree 0), ap length no_objects, AllZip-long (Shows g at.ks) at.ks (objects_of tree 0) at.numbering.objects)

pub end_in_order : (g : List Obj) (tree : Tree) (walk : WriteWalk) (at : IsAt g tree walk) → walk.given ≡ length (tokens tree) → walk.marks.ordered ≡ true → AreInOrder at.ks
end_in_order g tree walk at end ordered i k is =
    let inside : i < length at.ks = slice_get_within at.ks i k is in
    let mark : slice_index (marks_of walk.marks) k ≡ suc i = at.marked.found i k (omega (arith, all_met g tree walk at end)) is in
    let view : marks_of walk.marks ≡ in_order walk.marks.met walk.marks.objects = ap (λ b. cond b (in_order walk.marks.met walk.marks.objects) walk.marks.table.items) ordered in
    met_in_order walk.marks.met walk.marks.objects k i (ap (λ ms. slice_index ms k) (sym view) ∙ mark)
