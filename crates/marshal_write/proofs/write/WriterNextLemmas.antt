-- Lemmas on one call of `next`.
use Rattle.std.proofs.Common.{ℕ, zero, suc, ◌≡◌, ◌≢◌, ◌+◌, ◌*◌, ◌-◌, ◌<◌, ◌≤◌, ◌^◌, ◌∙◌, true, List, ◌∷◌, ◌++◌, length, map, drop, refl, sym, ap, subst, arith, length-drop, ℤ}
use Rattle.std.specs.Prelude.{slice_index, slice_set, All, vec_len, vec_capacity}
use Rattle.std.proofs.lemmas.Option.{slice_get_within}
use Rattle.base_data.specs.declared.model.value.Val.{Val}
use Rattle.base_data.specs.declared.model.value.Val.TheVariants as vals
use Rattle.base_data.specs.declared.model.value.Obj.{Obj}
use Rattle.base_data.specs.model.Graph.{IsValue}
use Rattle.marshal_spec.specs.format.Words.{all_words64}
use Rattle.marshal_spec.specs.format.Token.{integer, atom, shared, measure_of}
use Rattle.marshal_spec.specs.format.Tree.{Tree, Forest, none, more, node, tokens, forest_tokens}
use Rattle.marshal_spec.specs.format.Canonical.{data_encoding}
use Rattle.marshal_spec.specs.format.Isomorphism.{IsTreeOf}
use Rattle.marshal_spec.proofs.canonical.CanonLemmas.{tokens-le}
use Rattle.marshal_spec.proofs.canonical.Walk.{has_one_tree, numbering}
use Rattle.marshal_heap.specs.heap.Heap.{object_at, position, IsHeap}
use Rattle.marshal_write.specs.write.WriteStep.{object_token, token_in}
use Rattle.marshal_write.specs.write.Marks.{marks_of}
use Rattle.marshal_write.specs.write.WriteWalk.{AreLeft, IsAt, IsWalk, IsFrame, IsOuter, IsMet, left_of, root_left, pending}
use Rattle.marshal_write.specs.declared.write.write_walk.WriteStep.{WriteStep}
use Rattle.marshal_write.specs.declared.write.write_walk.WriteStep.TheVariants as steps
use Rattle.marshal_write.specs.declared.write.marks.Marks.{Marks}
use Rattle.marshal_write.specs.declared.write.write_walk.WriteWalk.{WriteWalk}
use Rattle.marshal_write.proofs.write.BoundLemmas.{few_words, few_objects, objects-le-words}
use Rattle.marshal_write.proofs.write.WriterLeftLemmas.{Meets, object_next}
use Rattle.marshal_write.proofs.write.WriterSizeLemmas.{tree_words, few_bytes}
use Rattle.marshal_write.proofs.write.WriterWalkLemmas.{Advances, Keeps, Enters, advance_integer, advance_atom, advance_reference, advance_object, marks_behind}

-- ---- the size of a value

pub record IsBounded (tree : Tree) : Type 0 where
  pub words : all_words64 (map measure_of (tokens tree)) < 2 ^ 60
  pub bytes : length (data_encoding (tokens tree)) ≤ 9 + 9 * all_words64 (map measure_of (tokens tree))
  pub tokens : length (tokens tree) ≤ length (data_encoding (tokens tree))

pub bounded : (g : List Obj) (v : Val) (tree : Tree) → IsHeap g → IsValue (length g) v → IsTreeOf g v tree → IsBounded tree
bounded g v tree heap is_value is_of =
    let n = numbering g v tree heap.is_graph is_value is_of in record {
      words = omega (arith, few_words g v tree n.0 n.1, tree_words tree 0 is_of.is_tree, heap.words);
      bytes = few_bytes tree is_of.is_tree;
      tokens = tokens-le tree is_of.is_tree;
    }

-- ---- after `next_value`

some_token : (tree : Tree) (ks : List ℕ) (c : ℕ) (forest : Forest) (v : Val) (values : List Val) → AreLeft tree ks c forest (v ∷ values) → 0 < length (forest_tokens forest)
some_token tree ks c none v values left = absurd left.agree
some_token tree ks c (more (node t s) f) v values left = omega arith

-- If no value remains, then the invariant of the walk still holds.
pub still_walk : (g : List Obj) (walk nv : WriteWalk) → IsWalk g walk → IsFrame g nv.last → All (IsOuter g) nv.frames.items → vec_len nv.frames ≤ vec_len walk.frames
    → vec_capacity nv.frames ≡ vec_capacity walk.frames → nv ≡ record walk { last = nv.last; frames = nv.frames } → left_of g nv ≡ left_of g walk → IsWalk g nv
still_walk g walk nv w last frames depth capacity frame left =
    subst (IsWalk g) (sym frame) (record {
      heap = w.heap;
      value = w.value;
      last = last;
      frames = frames;
      depth = omega (arith, depth, w.depth);
      marks = w.marks;
      met = w.met;
      next = w.next;
      room = omega (arith, w.room, capacity);
      at = λ tree is_of.
          let at = w.at tree is_of in record {
            ks = at.ks;
            numbering = at.numbering;
            forest = at.forest;
            tokens_left = at.tokens_left;
            within = at.within;
            left = subst (AreLeft tree at.ks walk.count at.forest) (ap (λ vs. root_left walk ++ vs) (sym left)) at.left;
            marked = at.marked;
            order = at.order;
          };
    })

module _ (g : List Obj) (walk nv : WriteWalk) (v : Val) (w : IsWalk g walk) (value : pending g walk ≡ v ∷ left_of g nv)
    (last : IsFrame g nv.last) (frames : All (IsOuter g) nv.frames.items) (depth : vec_len nv.frames ≤ vec_len walk.frames) (capacity : vec_capacity nv.frames ≡ vec_capacity walk.frames)
    (frame : nv ≡ record walk { last = nv.last; frames = nv.frames }) where
  same_root : nv.root ≡ walk.root
  same_root = ap (λ (x : WriteWalk). x.root) frame

  same_given : nv.given ≡ walk.given
  same_given = ap (λ (x : WriteWalk). x.given) frame

  same_count : nv.count ≡ walk.count
  same_count = ap (λ (x : WriteWalk). x.count) frame

  same_next : nv.next ≡ walk.next
  same_next = ap (λ (x : WriteWalk). x.next) frame

  same_again : nv.again ≡ walk.again
  same_again = ap (λ (x : WriteWalk). x.again) frame

  same_marks : nv.marks ≡ walk.marks
  same_marks = ap (λ (x : WriteWalk). x.marks) frame

  pub given_small : nv.given + 1 < 2 ^ 64
  given_small =
      let t = has_one_tree g walk.root w.heap.is_graph w.value in
      let at = w.at t.tree t.is in
      let b = bounded g walk.root t.tree w.heap w.value t.is in
      let some = some_token t.tree at.ks walk.count at.forest v (left_of g nv) (subst (AreLeft t.tree at.ks walk.count at.forest) value at.left) in
      let left : length (drop walk.given (tokens t.tree)) ≡ length (forest_tokens at.forest) = ap length at.tokens_left in
      omega (arith, same_given, length-drop walk.given (tokens t.tree), b.words, b.bytes, b.tokens)

  abbrev stepped : WriteWalk
  stepped = record nv { given = nv.given + 1 }

  keeps : Keeps walk stepped
  keeps = record { root = same_root; given = ap (λ n. n + 1) same_given; count = same_count; again = same_again; marks = same_marks }

  pub marks_many : length (marks_of nv.marks) ≡ length g
  marks_many = ap (λ (ms : Marks). length (marks_of ms)) same_marks ∙ w.marks

  pub met_count : nv.marks.ordered ≡ true → nv.marks.met ≡ nv.count
  met_count ordered = ap (λ (ms : Marks). ms.met) same_marks ∙ w.met (sym (ap (λ (ms : Marks). ms.ordered) same_marks) ∙ ordered) ∙ sym same_count

  pub next_position : nv.marks.ordered ≡ true → nv.next ≡ 8 * position g nv.count
  next_position ordered = same_next ∙ w.next (sym (ap (λ (ms : Marks). ms.ordered) same_marks) ∙ ordered) ∙ ap (λ n. 8 * position g n) (sym same_count)

  after : ((tree : Tree) → IsTreeOf g walk.root tree → IsAt g tree stepped) → IsWalk g stepped
  after at = record {
    heap = w.heap;
    value = subst (IsValue (length g)) (sym same_root) w.value;
    last = last;
    frames = frames;
    depth = omega (arith, same_count, w.depth);
    marks = marks_many;
    met = met_count;
    next = next_position;
    room = omega (arith, w.room);
    at = λ tree is_of. at tree (subst (λ r. IsTreeOf g r tree) same_root is_of);
  }

  pub integer_advances : (z : ℤ) → v ≡ vals.Int z → (tree : Tree) → IsTreeOf g walk.root tree → Advances g tree walk stepped (integer z)
  integer_advances z is tree is_of = advance_integer g tree walk stepped z (w.at tree is_of) keeps (subst (λ x. pending g walk ≡ x ∷ left_of g nv) is value)

  pub integer_walk : (z : ℤ) → v ≡ vals.Int z → IsWalk g stepped
  integer_walk z is = after (λ tree is_of. (integer_advances z is tree is_of).at)

  pub atom_advances : (tag : ℕ) → v ≡ vals.Atom tag → (tree : Tree) → IsTreeOf g walk.root tree → Advances g tree walk stepped (atom tag)
  atom_advances tag is tree is_of = advance_atom g tree walk stepped tag (w.at tree is_of) keeps (subst (λ x. pending g walk ≡ x ∷ left_of g nv) is value)

  pub atom_walk : (tag : ℕ) → v ≡ vals.Atom tag → IsWalk g stepped
  atom_walk tag is = after (λ tree is_of. (atom_advances tag is tree is_of).at)

  -- ---- before `meet`

  pub mark_behind : (k : ℕ) → slice_index (marks_of nv.marks) k ≤ nv.count
  mark_behind k =
      let t = has_one_tree g walk.root w.heap.is_graph w.value in
      let at = w.at t.tree t.is in
      rw (same_count, same_marks) (marks_behind g at.ks walk.count k (marks_of walk.marks) at.marked)

  meets_next : (tree : Tree) (at : IsAt g tree walk) (k : ℕ) → v ≡ vals.Ref k → slice_index (marks_of walk.marks) k ≡ 0
      → Meets g tree at.ks walk.count at.forest k (left_of g nv)
  meets_next tree at k is new =
      let left : AreLeft tree at.ks walk.count at.forest (vals.Ref k ∷ left_of g nv) =
      subst (λ x. AreLeft tree at.ks walk.count at.forest (x ∷ left_of g nv)) is (subst (AreLeft tree at.ks walk.count at.forest) value at.left) in
      object_next g walk.root tree at.ks walk.count k (marks_of walk.marks) at.forest (left_of g nv) at.numbering at.marked new left

  -- Before the first visit to an object, not all objects have been visited.
  fewer_met : (k : ℕ) → v ≡ vals.Ref k → slice_index (marks_of walk.marks) k ≡ 0 → walk.count < length g
  fewer_met k is new =
      let t = has_one_tree g walk.root w.heap.is_graph w.value in
      let at = w.at t.tree t.is in
      let meets = meets_next t.tree at k is new in
      let among : walk.count < length at.ks = slice_get_within at.ks walk.count k meets.at_c in
      omega (arith, few_objects g walk.root t.tree at.ks at.numbering)

  mark_is_old : (k n : ℕ) → slice_index (marks_of nv.marks) k ≡ n → slice_index (marks_of walk.marks) k ≡ n
  mark_is_old k n is = subst (λ ms. slice_index (marks_of ms) k ≡ n) same_marks is

  -- If a repeated walk visits objects in order and the current object is new, then the object is
  -- the next object.
  pub next_in_order : (k : ℕ) → v ≡ vals.Ref k → nv.again ≡ true → nv.marks.ordered ≡ true → slice_index (marks_of nv.marks) k ≡ 0 → k ≡ nv.count
  next_in_order k is again ordered new =
      let t = has_one_tree g walk.root w.heap.is_graph w.value in
      let at = w.at t.tree t.is in
      let meets = meets_next t.tree at k is (mark_is_old k 0 new) in
      at.order (sym same_again ∙ again) (sym (ap (λ (ms : Marks). ms.ordered) same_marks) ∙ ordered) walk.count k meets.at_c ∙ sym same_count

  pub frame_room : (k : ℕ) → v ≡ vals.Ref k → slice_index (marks_of nv.marks) k ≡ 0 → vec_len nv.frames < vec_capacity nv.frames
  frame_room k is new = omega (arith, fewer_met k is (mark_is_old k 0 new), w.depth, w.room)

  pub count_small : (k : ℕ) → v ≡ vals.Ref k → slice_index (marks_of nv.marks) k ≡ 0 → nv.count + 1 < 2 ^ 64
  count_small k is new = omega (arith, fewer_met k is (mark_is_old k 0 new), same_count, objects-le-words g, w.heap.words)

  -- ---- after `meet`

  pub record Follows (new : WriteWalk) (step : WriteStep) : Type 0 where
    pub advances : (tree : Tree) → IsTreeOf g walk.root tree → Advances g tree walk new (token_in g step)
    pub more_given : new.given ≡ walk.given + 1
    pub is_walk : IsWalk g new

  met_first : (k : ℕ) (new : WriteWalk) (step : WriteStep) → v ≡ vals.Ref k → k < length g → slice_index (marks_of nv.marks) k ≡ 0 → IsMet g k stepped new step → Follows new step
  met_first k new step is inside mark met =
      let enters : Enters g k (left_of g nv) walk new = record {
        root = met.root ∙ same_root;
        given = met.given ∙ ap (λ n. n + 1) same_given;
        count = met.count ∙ ap (λ n. n + 1) same_count;
        again = met.again ∙ same_again;
        was = λ ordered. sym (ap (λ (ms : Marks). ms.ordered) same_marks) ∙ met.was ordered;
        marks = met.marks ∙ ap (λ ms. slice_set (marks_of ms) k (nv.count + 1)) same_marks ∙ ap (λ n. slice_set (marks_of walk.marks) k (n + 1)) same_count;
        left = met.left;
      } in
      let goes : (tree : Tree) → IsTreeOf g walk.root tree → Advances g tree walk new (object_token (object_at g k)) = λ tree is_of.
      advance_object g tree walk new k (left_of g nv) (w.at tree is_of) enters inside (mark_is_old k 0 mark)
      (subst (λ x. pending g walk ≡ x ∷ left_of g nv) is value) in record {
        advances = λ tree is_of. subst (Advances g tree walk new) (sym met.token) (goes tree is_of);
        more_given = enters.given;
        is_walk = record {
          heap = w.heap;
          value = subst (IsValue (length g)) (sym enters.root) w.value;
          last = met.last;
          frames = met.frames;
          depth = omega (arith, met.depth, met.count, same_count, w.depth);
          marks = met.many_marks ∙ marks_many;
          met = met.met;
          next = met.next;
          room = omega (arith, w.room, met.capacity);
          at = λ tree is_of. (goes tree (subst (λ r. IsTreeOf g r tree) enters.root is_of)).at;
        };
      }

  met_again : (k i : ℕ) → v ≡ vals.Ref k → slice_index (marks_of nv.marks) k ≡ suc i → Follows stepped (steps.Shared (nv.count - (slice_index (marks_of nv.marks) k - 1)))
  met_again k i is mark =
      let offset : walk.count - i ≡ nv.count - (slice_index (marks_of nv.marks) k - 1) = omega (arith, same_count) in
      let goes : (tree : Tree) → IsTreeOf g walk.root tree → Advances g tree walk stepped (shared (walk.count - i)) = λ tree is_of.
      advance_reference g tree walk stepped k i (w.at tree is_of) keeps (mark_is_old k (suc i) mark)
      (subst (λ x. pending g walk ≡ x ∷ left_of g nv) is value) in record {
        advances = λ tree is_of. subst (λ n. Advances g tree walk stepped (shared n)) offset (goes tree is_of);
        more_given = keeps.given;
        is_walk = after (λ tree is_of. (goes tree is_of).at);
      }

  pub reference_follows : (k : ℕ) (new : WriteWalk) (step : WriteStep) → v ≡ vals.Ref k → k < length g → (slice_index (marks_of nv.marks) k ≡ 0 → IsMet g k stepped new step)
      → (slice_index (marks_of nv.marks) k ≢ 0 → (new ≡ stepped) × (step ≡ steps.Shared (nv.count - (slice_index (marks_of nv.marks) k - 1)))) → Follows new step
  reference_follows k new step is inside first again = by_mark (slice_index (marks_of nv.marks) k) refl where
    by_mark : (m : ℕ) → slice_index (marks_of nv.marks) k ≡ m → Follows new step
    by_mark zero mark = met_first k new step is inside mark (first mark)
    by_mark (suc i) mark =
        let r = again (λ none. omega arith) in
        subst (λ x. Follows x step) (sym r.0) (subst (Follows stepped) (sym r.1) (met_again k i is mark))
