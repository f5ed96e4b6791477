-- The graph that the tokens of a tree build.
use Rattle.std.proofs.Common.{◌≡◌, ℕ, ◌+◌, ◌<◌, ◌≤◌, List, [], ◌∷◌, ◌++◌, length, replicate, Option, Some, None, pos, refl, ap, ap₂, sym, ◌∙◌, arith, append-nil, append_assoc, length-append}
use Rattle.std.proofs.lemmas.List.{length_push, length-replicate}
use Rattle.std.proofs.lemmas.List.Sums.{fold-append}
use Rattle.base_data.specs.declared.model.value.Val.{Val}
use Rattle.base_data.specs.declared.model.value.Val.TheVariants as vals
use Rattle.base_data.specs.declared.model.value.Obj.{Obj}
use Rattle.base_data.specs.declared.model.value.Obj.TheVariants as objs
use Rattle.marshal_spec.specs.format.Token.{Token, integer, atom, shared, block, leaf}
use Rattle.marshal_spec.specs.format.Tree.{Tree, Forest, node, none, more, trees_in, IsTree, AreTrees, tokens, forest_tokens, made, value_of, root, roots, objects_of, all_objects}
use Rattle.marshal_read.specs.Build.{building, start, still_open, advanced, blank, opened, absorb, absorb_all}
use Rattle.marshal_read.specs.declared.graph_builder.PendingBlock.{PendingBlock}
use Rattle.marshal_heap.specs.heap.Heap.{set_field, word_of}
use Rattle.marshal_heap.proofs.heap.HeapFieldLemmas.{length-set_field, set_field-append}
use Rattle.marshal_spec.proofs.format.Counts.{leaf_fields, length-objects_of, length-roots}
use Rattle.marshal_read.proofs.ReaderFieldLemmas.{set_fields, set_fields-append, set_fields_at, still_open_below, still_open_full, advanced-zero, advanced-suc}

-- The tokens of the forest's trees set the next fields of an open block and append the trees'
-- objects.
abbrev pub FillsFields : Forest → Type 0
FillsFields f =
    (all : List Obj) (b : PendingBlock) (outer : List PendingBlock) (r : Option Val)
    → b.object < length all → b.next + trees_in f ≤ b.size
    → absorb_all (building all (still_open b outer) r) (forest_tokens f)
    ≡ building (set_fields all b.object b.next (roots f (length all)) ++ all_objects f (length all)) (still_open (advanced b (trees_in f)) outer) r

-- The trees after a token complete the object that the token makes.
abbrev CompletesObject : Token → Forest → Type 0
CompletesObject t f =
    (xs : List Obj) (c at : ℕ) (outer : List PendingBlock) (r : Option Val) → length xs ≡ c
    → absorb_all (building (xs ++ blank t) (opened t c at ++ outer) r) (forest_tokens f) ≡ building (xs ++ objects_of (node t f) c) outer r

-- If a token has no fields, then no trees follow the token.
no_trees : (t : Token) (f : Forest) → trees_in f ≡ 0 → CompletesObject t none → CompletesObject t f
no_trees t none e h = h
no_trees t (more tree f) e h = absurd (omega arith)

completes_block : (tag size : ℕ) (f : Forest) → 0 < size → trees_in f ≡ size → FillsFields f → CompletesObject (block tag size) f
completes_block tag size f h e fills xs c at outer r l =
    let b : PendingBlock = record { object = c; next = 0; size = size; at = at } in
    let old : List Val = replicate size (vals.Int (pos 0)) in
    let all : List Obj = xs ++ objs.Block tag old ∷ [] in
    let n : length all ≡ c + 1 = length_push xs (objs.Block tag old) ∙ ap (λ n. n + 1) l in
    let values : List Val = roots f (c + 1) in
    let full : length old ≡ length values = length-replicate size (vals.Int (pos 0)) ∙ sym e ∙ sym (length-roots f (c + 1)) in
    ap (λ o. absorb_all (building all o r) (forest_tokens f)) (sym (still_open_below b outer h))
    ∙ fills all b outer r (omega arith) (omega arith)
    ∙ ap₂ (λ a o. building a o r)
    (ap (λ k. set_fields all c 0 (roots f k) ++ all_objects f k) n
    ∙ ap (λ ys. ys ++ all_objects f (c + 1)) (set_fields_at xs tag old c values l full)
    ∙ append_assoc xs (objs.Block tag values ∷ []) (all_objects f (c + 1)))
    (still_open_full (advanced b (trees_in f)) outer (omega arith))

pub completes : (t : Token) (f : Forest) → IsTree (node t f) → FillsFields f → CompletesObject t f
completes (integer z) f h fills = no_trees (integer z) f h.1 (λ xs c at outer r l. refl)
completes (atom tag) f h fills = no_trees (atom tag) f h.1 (λ xs c at outer r l. refl)
completes (shared offset) f h fills = no_trees (shared offset) f h.1 (λ xs c at outer r l. refl)
completes (block tag size) f h fills = completes_block tag size f h.0.1 h.1 fills
completes (leaf o) f h fills = no_trees (leaf o) f (h.1 ∙ leaf_fields o) (λ xs c at outer r l. refl)

-- The tokens of a tree set the next field of an open block.
mutual
  pub absorb_tree : (tree : Tree) (all : List Obj) (b : PendingBlock) (outer : List PendingBlock) (r : Option Val)
      → IsTree tree → b.object < length all
      → absorb_all (building all (b ∷ outer) r) (tokens tree)
      ≡ building (set_field all b.object b.next (root tree (length all)) ++ objects_of tree (length all)) (still_open (advanced b 1) outer) r
  absorb_tree (node t f) all b outer r h k =
      let v : Val = value_of t (length all) in
      let at : ℕ = word_of (all ++ blank t) (vals.Ref (length all)) in
      ap (λ a. absorb_all (building a (opened t (length all) at ++ still_open (advanced b 1) outer) r) (forest_tokens f))
      (set_field-append all (blank t) b.object b.next v k)
      ∙ completes t f h (absorb_forest f h.2) (set_field all b.object b.next v) (length all) at (still_open (advanced b 1) outer) r
      (length-set_field all b.object b.next v)

  pub absorb_forest : (f : Forest) → AreTrees f → FillsFields f
  absorb_forest none h all b outer r k l =
      ap₂ (λ a o. building a o r) (sym (append-nil all)) (ap (λ o. still_open o outer) (sym (advanced-zero b)))
  absorb_forest (more tree f) h all b outer r k l =
      let v : Val = root tree (length all) in
      let xs : List Obj = set_field all b.object b.next v in
      let ys : List Obj = objects_of tree (length all) in
      let c : ℕ = length all + made tree in
      let x : length xs ≡ length all = length-set_field all b.object b.next v in
      let n : length (xs ++ ys) ≡ c = length-append xs ys ∙ ap₂ ◌+◌ x (length-objects_of tree (length all) h.0) in
      let inside : b.object < length xs = omega arith in
      ap (λ o. absorb_all (building all o r) (tokens tree ++ forest_tokens f)) (still_open_below b outer (omega arith))
      ∙ fold-append absorb (building all (b ∷ outer) r) (tokens tree) (forest_tokens f)
      ∙ ap (λ s. absorb_all s (forest_tokens f)) (absorb_tree tree all b outer r h.0 k)
      ∙ absorb_forest f h.1 (xs ++ ys) (advanced b 1) outer r (omega arith) (omega arith)
      ∙ ap₂ (λ a o. building a o r)
      (ap (λ m. set_fields (xs ++ ys) b.object (b.next + 1) (roots f m) ++ all_objects f m) n
      ∙ ap (λ zs. zs ++ all_objects f c) (set_fields-append xs ys b.object (b.next + 1) (roots f c) inside)
      ∙ append_assoc (set_fields xs b.object (b.next + 1) (roots f c)) ys (all_objects f c))
      (ap (λ o. still_open o outer) (advanced-suc b (trees_in f)))

-- If no block is open, then the tree becomes the root.
pub absorb_root : (tree : Tree) (all : List Obj) (r : Option Val) → IsTree tree
    → absorb_all (building all [] r) (tokens tree) ≡ building (all ++ objects_of tree (length all)) [] (Some (root tree (length all)))
absorb_root (node t f) all r h = completes t f h (absorb_forest f h.2) all (length all) (word_of (all ++ blank t) (vals.Ref (length all))) [] (Some (value_of t (length all))) refl

-- From the empty state, the tokens of a tree build the objects and the root of the tree.
pub absorb_start : (tree : Tree) → IsTree tree → absorb_all start (tokens tree) ≡ building (objects_of tree 0) [] (Some (root tree 0))
absorb_start tree h = absorb_root tree [] None h
