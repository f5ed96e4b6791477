-- Each value that `gen` generates has a tree, and some bytes encode the tree: the objects are a graph
-- with at most eleven words for each item.
use Rattle.std.proofs.Common.{◌≡◌, ◌==◌, ◌<◌, ◌≤◌, ◌+◌, ◌*◌, ◌/◌, ◌%◌, ◌^◌, ℕ, zero, suc, Bool, true, false, cond, List, [], ◌∷◌, ◌++◌, length, map, refl, sym, subst, append-nil, append_assoc, length-append, mod-lt, div-le_self, arith, pos}
use Rattle.std.specs.Prelude.{All, replicate}
use Rattle.std.proofs.lemmas.List.{length-replicate}
use Rattle.std.proofs.lemmas.List.Elements.{All-nil, All-cons, All-head, All-tail, All-push, All-weaker, All-replicate}
use Rattle.std.proofs.lemmas.List.Sums.{sum_by-append, sum_by-cons}
use Rattle.base_data.specs.declared.model.value.Val.{Val}
use Rattle.base_data.specs.declared.model.value.Val.TheVariants as vals
use Rattle.base_data.specs.declared.model.value.Obj.{Obj}
use Rattle.base_data.specs.declared.model.value.Obj.TheVariants as objects
use Rattle.base_data.specs.model.Graph.{IsValue, IsObject, IsGraph}
use Rattle.marshal_spec.specs.format.Words.{all_words64}
use Rattle.marshal_spec.specs.format.Token.{measure_of}
use Rattle.marshal_spec.specs.format.Canonical.{canon}
use Rattle.marshal_spec.specs.format.Isomorphism.{IsTreeOf}
use Rattle.marshal_spec.specs.format.Tree.{Tree, tokens}
use Rattle.marshal_spec.proofs.canonical.CanonLemmas.{canon_encodes_lem}
use Rattle.marshal_spec.proofs.canonical.Walk.{tree_exists, numbering}
use Rattle.marshal_heap.specs.heap.Heap.{object_words, heap_words}
use Rattle.marshal_heap.proofs.heap.HeapLemmas.{IsValue-more, IsObject-more}
use Rattle.marshal_write.proofs.write.BoundLemmas.{few_words}
use Rattle.marshal_write.proofs.write.WriterSizeLemmas.{tree_words, few_bytes}
use Rattle.cmd_gen.specs.generator.Generated.{next_state, state_after, drawn, draw, item_of, item_at, earlier, MadeItems, with_item, items_made, listed, generated}
use Rattle.cmd_gen.specs.declared.generator.generated_item.GeneratedItem.{GeneratedItem}
use Rattle.cmd_gen.specs.declared.generator.generated_item.GeneratedItem.TheVariants.{Nil, Num, Text, Pair, Cell}
use Rattle.thm_outcome.specs.TotalLanguage.{IsEncoded}

-- The objects are a graph with at most `n` words.
record IsFit (g : List Obj) (n : ℕ) : Type 0 where
  graph : IsGraph g
  words : heap_words g ≤ n

weaken : (g : List Obj) (n m : ℕ) → IsFit g n → n ≤ m → IsFit g m
weaken g n m fit more = record { graph = fit.graph; words = omega (arith, fit.words, more) }

push : (g : List Obj) (o : Obj) (n k : ℕ) → IsFit g n → IsObject (length g) o → object_words o ≤ k
    → IsFit (g ++ o ∷ []) (n + k)
push g o n k fit valid few =
    let m = length (g ++ o ∷ []) in
    let more : length g ≤ m = omega (arith, length-append g (o ∷ [])) in
    record {
      graph = All-push (IsObject m) g o
          (All-weaker (IsObject (length g)) (IsObject m) (λ x h. IsObject-more (length g) m x more h) g fit.graph)
          (IsObject-more (length g) m o more valid);
      words = omega (arith, sum_by-append object_words g (o ∷ []), sum_by-cons object_words o [], fit.words, few);
    }

push_two : (g : List Obj) (a b : Obj) (n j k : ℕ) → IsFit g n → IsObject (length g) a → object_words a ≤ j
    → IsObject (length g + 1) b → object_words b ≤ k → IsFit (g ++ a ∷ b ∷ []) (n + j + k)
push_two g a b n j k fit valid_a few_a valid_b few_b =
    subst (λ x. IsFit x (n + j + k)) (append_assoc g (a ∷ []) (b ∷ []))
    (push (g ++ a ∷ []) b (n + j) k (push g a n j fit valid_a few_a)
    (subst (λ m. IsObject m b) (sym (length-append g (a ∷ []))) valid_b) few_b)

one_field : (n tag : ℕ) (v : Val) → tag ≤ 243 → IsValue n v → IsObject n (objects.Block tag (v ∷ []))
one_field n tag v few valid = (few, omega arith, All-cons (IsValue n) v [] valid (All-nil (IsValue n)))

two_fields : (n tag : ℕ) (v w : Val) → tag ≤ 243 → IsValue n v → IsValue n w
    → IsObject n (objects.Block tag (v ∷ w ∷ []))
two_fields n tag v w few valid other =
    (few, omega arith, All-cons (IsValue n) v (w ∷ []) valid (All-cons (IsValue n) w [] other (All-nil (IsValue n))))

earlier_is : (n : ℕ) (values : List Val) → All (IsValue n) values → (i : ℕ) → IsValue n (earlier values i)
earlier_is n [] all i = omega arith
earlier_is n (v ∷ values) all zero = All-head (IsValue n) v values all
earlier_is n (v ∷ values) all (suc i) = earlier_is n values (All-tail (IsValue n) v values all) i

-- ---- the numbers of an item

abbrev IsFine : GeneratedItem → Type 0
IsFine Nil = Unit {0}
IsFine (Num n) = n < 2 ^ 62
IsFine (Text len byte) = (len < 40) × (byte < 256)
IsFine (Pair i j) = Unit {0}
IsFine (Cell i) = Unit {0}

either : (b : Bool) (x y : GeneratedItem) → IsFine x → IsFine y → IsFine (cond b x y)
either true x y h k = h
either false x y h k = k

letter : (c : ℕ) → 97 + c % 26 < 256
letter c = let less : c % 26 < 26 = mod-lt c (omega arith) in omega (arith, less)

item_fine : (kind i b c : ℕ) → b < 2 ^ 62 → IsFine (item_of kind i b c)
item_fine kind i b c less =
    let last = cond (kind == 3) (Pair (b % i) (c % i)) (Cell (b % i)) in
    let later = cond (i == 0) Nil last in
    let some = cond (kind == 2) (Text (b % 40) (97 + c % 26)) later in
    either (kind == 0) Nil (cond (kind == 1) (Num b) some) tt
    (either (kind == 1) (Num b) some less
    (either (kind == 2) (Text (b % 40) (97 + c % 26)) later (mod-lt b (omega arith), letter c)
    (either (i == 0) Nil last tt
    (either (kind == 3) (Pair (b % i) (c % i)) (Cell (b % i)) tt tt))))

drawn_few : (n : ℕ) → n < 2 ^ 31 → drawn n < 2 ^ 62
drawn_few n less = let few : n / 256 ≤ n = div-le_self n 256 in omega (arith, few, less)

state_few : (state : ℕ) → next_state state < 2 ^ 31
state_few state = mod-lt (state * 1103515245 + 12345) (omega arith)

fine_at : (i state : ℕ) → IsFine (item_at i state)
fine_at i state =
    item_fine (draw 1 state % 5) i (draw 2 state) (draw 3 state)
    (drawn_few (state_after 2 state) (state_few (state_after 1 state)))

-- ---- the items

-- After `count` items, the objects have at most eight words for each item, and the values belong to
-- the objects.
record AreFit (made : MadeItems) (count : ℕ) : Type 0 where
  fit : IsFit made.all (8 * count)
  values : All (IsValue (length made.all)) made.values
  many : length made.values ≡ count

next : (made : MadeItems) (count : ℕ) → AreFit made count → (objs : List Obj) (v : Val) (s : ℕ)
    → IsFit (made.all ++ objs) (8 * count + 8) → IsValue (length (made.all ++ objs)) v
    → AreFit (record { all = made.all ++ objs; values = made.values ++ v ∷ []; state = s }) (suc count)
next made count fit objs v s all valid =
    let n = length (made.all ++ objs) in
    let more : length made.all ≤ n = omega (arith, length-append made.all objs) in
    record {
      fit = weaken (made.all ++ objs) (8 * count + 8) (8 * suc count) all (omega arith);
      values = All-push (IsValue n) made.values v
          (All-weaker (IsValue (length made.all)) (IsValue n) (λ w h. IsValue-more (length made.all) n w more h) made.values fit.values)
          valid;
      many = omega (arith, length-append made.values (v ∷ []), fit.many);
    }

item_fit : (made : MadeItems) (count : ℕ) → AreFit made count → (item : GeneratedItem) → IsFine item
    → AreFit (with_item made item) (suc count)
item_fit made count fit Nil fine =
    next made count fit [] (vals.Int (pos 0)) (state_after 3 made.state)
    (subst (λ g. IsFit g (8 * count + 8)) (sym (append-nil made.all))
    (weaken made.all (8 * count) (8 * count + 8) fit.fit (omega arith)))
    (omega arith)
item_fit made count fit (Num n) fine =
    let g = made.all in
    let o = objects.Block 0 (vals.Int (pos n) ∷ []) in
    next made count fit (o ∷ []) (vals.Ref (length g)) (state_after 3 made.state)
    (weaken (g ++ o ∷ []) (8 * count + 2) (8 * count + 8)
    (push g o (8 * count) 2 fit.fit (one_field (length g) 0 (vals.Int (pos n)) (omega arith) fine) (omega arith)) (omega arith))
    (omega (arith, length-append g (o ∷ [])))
item_fit made count fit (Text len byte) fine =
    let g = made.all in
    let a = objects.Bytes (replicate len byte) in
    let b = objects.Block 1 (vals.Ref (length g) ∷ []) in
    next made count fit (a ∷ b ∷ []) (vals.Ref (length g + 1)) (state_after 3 made.state)
    (weaken (g ++ a ∷ b ∷ []) (8 * count + 6 + 2) (8 * count + 8)
    (push_two g a b (8 * count) 6 2 fit.fit (All-replicate (λ b. b < 256) len byte fine.1)
    (omega (arith, length-replicate len byte, fine.0))
    (one_field (length g + 1) 1 (vals.Ref (length g)) (omega arith) (omega arith)) (omega arith)) (omega arith))
    (omega (arith, length-append g (a ∷ b ∷ [])))
item_fit made count fit (Pair i j) fine =
    let g = made.all in
    let v = earlier made.values i in
    let w = earlier made.values j in
    let o = objects.Block 2 (v ∷ w ∷ []) in
    next made count fit (o ∷ []) (vals.Ref (length g)) (state_after 3 made.state)
    (weaken (g ++ o ∷ []) (8 * count + 3) (8 * count + 8)
    (push g o (8 * count) 3 fit.fit
    (two_fields (length g) 2 v w (omega arith) (earlier_is (length g) made.values fit.values i) (earlier_is (length g) made.values fit.values j))
    (omega arith)) (omega arith))
    (omega (arith, length-append g (o ∷ [])))
item_fit made count fit (Cell i) fine =
    let g = made.all in
    let v = earlier made.values i in
    let a = objects.Block 0 (v ∷ []) in
    let b = objects.Block 3 (vals.Ref (length g) ∷ []) in
    next made count fit (a ∷ b ∷ []) (vals.Ref (length g + 1)) (state_after 3 made.state)
    (weaken (g ++ a ∷ b ∷ []) (8 * count + 2 + 2) (8 * count + 8)
    (push_two g a b (8 * count) 2 2 fit.fit
    (one_field (length g) 0 v (omega arith) (earlier_is (length g) made.values fit.values i)) (omega arith)
    (one_field (length g + 1) 3 (vals.Ref (length g)) (omega arith) (omega arith)) (omega arith)) (omega arith))
    (omega (arith, length-append g (a ∷ b ∷ [])))

items_fit : (number count : ℕ) → AreFit (items_made number count) count
items_fit number zero = record {
  fit = record { graph = All-nil (IsObject 0); words = omega arith };
  values = All-nil (IsValue 0);
  many = refl;
}
items_fit number (suc count) =
    let made = items_made number count in
    item_fit made count (items_fit number count) (item_at (length made.values) made.state) (fine_at (length made.values) made.state)

-- ---- the list of the items

abbrev IsListed : (all : List Obj) → List Obj × Val → ℕ → Type 0
IsListed all made n = IsFit made.0 n × IsValue (length made.0) made.1 × (length all ≤ length made.0)

listed_fit : (all : List Obj) (values : List Val) (n : ℕ) → IsFit all n → All (IsValue (length all)) values
    → IsListed all (listed all values) (n + 3 * length values)
listed_fit all [] n fit valid = (weaken all n (n + 3 * 0) fit (omega arith), omega arith, omega arith)
listed_fit all (v ∷ vs) n fit valid =
    let rest = listed all vs in
    let r = listed_fit all vs n fit (All-tail (IsValue (length all)) v vs valid) in
    let o = objects.Block 0 (v ∷ rest.1 ∷ []) in
    let here = IsValue-more (length all) (length rest.0) v r.2 (All-head (IsValue (length all)) v vs valid) in (
      weaken (rest.0 ++ o ∷ []) (n + 3 * length vs + 3) (n + 3 * suc (length vs))
          (push rest.0 o (n + 3 * length vs) 3 r.0 (two_fields (length rest.0) 0 v rest.1 (omega arith) here r.1) (omega arith))
          (omega arith),
      omega (arith, length-append rest.0 (o ∷ [])),
      omega (arith, length-append rest.0 (o ∷ []), r.2),
    )

-- ---- the tree

-- A graph with few words has a tree that some bytes encode.
tree_of : (g : List Obj) (v : Val) (n : ℕ) → IsFit g n → IsValue (length g) v → n ≤ 2 ^ 32
    → (tree : Tree) × IsTreeOf g v tree × IsEncoded tree
tree_of g v n fit valid small =
    let t = tree_exists g v fit.graph valid in
    let m = numbering g v t.0 fit.graph valid t.1 in
    let words : all_words64 (map measure_of (tokens t.0)) ≤ n =
    omega (arith, few_words g v t.0 m.0 m.1, tree_words t.0 0 t.1.is_tree, fit.words) in (
      t.0,
      t.1,
      (
        n,
        canon t.0,
        canon_encodes_lem n t.0 (omega (arith, small)) t.1.is_tree t.1.refers_back words
            (omega (arith, few_bytes t.0 t.1.is_tree, words, small)),
      ),
    )

pub made_tree : (number count : ℕ) → count ≤ 1000000
    → (tree : Tree) × IsTreeOf (generated number count).0 (generated number count).1 tree × IsEncoded tree
made_tree number count few =
    let made = items_made number count in
    let fit = items_fit number count in
    let l = listed_fit made.all made.values (8 * count) fit.fit fit.values in
    tree_of (listed made.all made.values).0 (listed made.all made.values).1 (8 * count + 3 * length made.values) l.0 l.1
    (omega (arith, fit.many, few))
