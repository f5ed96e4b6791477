-- Lemmas on one token of a walk: which token is next, and which trees remain after the token.
use Rattle.std.proofs.Common.{ℕ, zero, suc, ◌≡◌, ◌+◌, ◌-◌, ◌<◌, ◌≤◌, ◌∙◌, List, [], ◌∷◌, ◌++◌, length, drop, Some, refl, sym, ap, ap₂, subst, arith, append_assoc, ℤ, pos}
use Rattle.std.specs.Prelude.{slice_get, slice_index, IsSomeAnd}
use Rattle.std.specs.List.{AllZip}
use Rattle.std.proofs.lemmas.List.{drop-drop}
use Rattle.std.proofs.Math.Seq.{drop-append_seam}
use Rattle.std.proofs.lemmas.Slice.Zip.{AllZip-long}
use Rattle.std.proofs.lemmas.Option.{get_or_from_slice_get}
use Rattle.base_data.proofs.model.Options.{IsSomeAnd-some}
use Rattle.base_data.specs.declared.model.value.Val.{Val}
use Rattle.base_data.specs.declared.model.value.Val.TheVariants as vals
use Rattle.base_data.specs.declared.model.value.Obj.{Obj}
use Rattle.base_data.specs.declared.model.value.Obj.TheVariants as objects
use Rattle.marshal_spec.specs.format.Token.{Token, integer, atom, shared, block, leaf, IsToken, IsLeaf}
use Rattle.marshal_spec.specs.format.Tree.{Tree, Forest, node, none, more, forest_tokens, trees_in, made_by, all_made, object_of, AllReferBack, roots, objects_of, all_objects}
use Rattle.marshal_spec.specs.format.Isomorphism.{Agree, AgreeObjects}
use Rattle.marshal_spec.proofs.format.Counts.{leaf_fields, length-object_of, length-roots}
use Rattle.marshal_spec.specs.canonical.Numbering.{numbered, Shows, IsNumbering}
use Rattle.marshal_spec.proofs.canonical.CanonicalListLemmas.{AllZip-append, AllZip-at}
use Rattle.marshal_spec.proofs.canonical.SameTree.{made_by_leaf, no_block_agrees_leaf, none_from_count}
use Rattle.marshal_spec.proofs.canonical.Walk.{at_numbered}
use Rattle.marshal_heap.specs.heap.Heap.{object_at, fields_of}
use Rattle.marshal_write.specs.write.WriteStep.{object_token}
use Rattle.marshal_write.specs.write.WriteWalk.{AreMarked, AreLeft}
use Rattle.marshal_write.proofs.write.ForestLemmas.{join, tokens-join, AreTrees-join, back-join, roots-join, objects-join}

-- ---- into the first tree

tokens_after : (t : Token) (s f : Forest) → forest_tokens (more (node t s) f) ≡ t ∷ forest_tokens (join s f)
tokens_after t s f = ap (λ ts. t ∷ ts) (sym (tokens-join s f))

-- After the object of the first token come the objects of the token's subtrees and of the other
-- trees.
objects_after : (tree : Tree) (c : ℕ) (t : Token) (s f : Forest) → IsToken t → drop c (objects_of tree 0) ≡ all_objects (more (node t s) f) c
    → drop (c + made_by t) (objects_of tree 0) ≡ all_objects (join s f) (c + made_by t)
objects_after tree c t s f h is =
    let d = c + made_by t in
    let first = object_of t (roots s d) in
    let many : length first ≡ made_by t = length-object_of t (roots s d) h in
    let position : c + (made_by t + all_made s) ≡ d + all_made s = omega arith in
    let split : drop c (objects_of tree 0) ≡ first ++ all_objects (join s f) d =
    is ∙ append_assoc first (all_objects s d) (all_objects f (c + (made_by t + all_made s)))
    ∙ ap (λ os. first ++ os) (ap (λ n. all_objects s d ++ all_objects f n) position ∙ sym (objects-join s f d)) in
    sym (drop-drop (made_by t) c (objects_of tree 0))
    ∙ ap (drop (made_by t)) split
    ∙ ap (λ n. drop n (first ++ all_objects (join s f) d)) (sym many)
    ∙ drop-append_seam first (all_objects (join s f) d)

-- The subtrees of the first token come next, followed by the other trees.
enter : (tree : Tree) (ks : List ℕ) (c : ℕ) (t : Token) (s f : Forest) (v : Val) (below values : List Val)
    → AreLeft tree ks c (more (node t s) f) (v ∷ values) → AllZip (Agree (numbered ks)) below (roots s (c + made_by t))
    → AreLeft tree ks (c + made_by t) (join s f) (below ++ values)
enter tree ks c t s f v below values left agree =
    let d = c + made_by t in
    let position : c + (made_by t + all_made s) ≡ d + all_made s = omega arith in record {
      are_trees = AreTrees-join s f left.are_trees.0.2 left.are_trees.1;
      back = back-join s f d left.back.0.1 (subst (AllReferBack f) position left.back.1);
      objects = objects_after tree c t s f left.are_trees.0.0 left.objects;
      agree = rw (roots-join s f d) (AllZip-append (Agree (numbered ks)) below values (roots s d) (roots f (d + all_made s)) agree
          (subst (λ n. AllZip (Agree (numbered ks)) values (roots f n)) position left.agree.1));
    }

-- ---- the next token

-- The token is the next token, and `values` are the values of the trees that remain after the
-- token.
pub record Goes (tree : Tree) (ks : List ℕ) (c : ℕ) (forest : Forest) (token : Token) (d : ℕ) (values : List Val) : Type 0 where
  pub rest : Forest
  pub tokens_are : forest_tokens forest ≡ token ∷ forest_tokens rest
  pub left : AreLeft tree ks d rest values

-- If the first token creates no object and has no fields, then the other trees remain after the
-- token.
passes : (tree : Tree) (ks : List ℕ) (c : ℕ) (t : Token) (s f : Forest) (v : Val) (values : List Val)
    → made_by t ≡ 0 → trees_in s ≡ 0 → AreLeft tree ks c (more (node t s) f) (v ∷ values) → Goes tree ks c (more (node t s) f) t c values
passes tree ks c t none f v values no_object no_fields left =
    let same : c + made_by t ≡ c = omega arith in record {
      rest = f;
      tokens_are = refl;
      left = subst (λ n. AreLeft tree ks n f values) same (enter tree ks c t none f v [] values left tt);
    }
passes tree ks c t (more u s) f v values no_object no_fields left = absurd (omega arith)

pub nothing_left : (tree : Tree) (ks : List ℕ) (c : ℕ) (forest : Forest) → AreLeft tree ks c forest [] → forest_tokens forest ≡ []
nothing_left tree ks c none left = refl
nothing_left tree ks c (more t f) left = absurd left.agree

pub integer_next : (tree : Tree) (ks : List ℕ) (c : ℕ) (forest : Forest) (z : ℤ) (values : List Val) → AreLeft tree ks c forest (vals.Int z ∷ values) → Goes tree ks c forest (integer z) c values
integer_next tree ks c none z values left = absurd left.agree
integer_next tree ks c (more (node (integer y) s) f) z values left =
    subst (λ x. Goes tree ks c (more (node (integer y) s) f) (integer x) c values) (sym left.agree.0)
    (passes tree ks c (integer y) s f (vals.Int z) values refl left.are_trees.0.1 left)
integer_next tree ks c (more (node t s) f) z values left = absurd left.agree.0

pub atom_next : (tree : Tree) (ks : List ℕ) (c : ℕ) (forest : Forest) (tag : ℕ) (values : List Val) → AreLeft tree ks c forest (vals.Atom tag ∷ values) → Goes tree ks c forest (atom tag) c values
atom_next tree ks c none tag values left = absurd left.agree
atom_next tree ks c (more (node (atom y) s) f) tag values left =
    subst (λ x. Goes tree ks c (more (node (atom y) s) f) (atom x) c values) (sym left.agree.0)
    (passes tree ks c (atom y) s f (vals.Atom tag) values refl left.are_trees.0.1 left)
atom_next tree ks c (more (node t s) f) tag values left = absurd left.agree.0

-- ---- the objects of the tree

at_drop : {X : Type 0} (n : ℕ) (xs : List X) (x : X) (ys : List X) → drop n xs ≡ x ∷ ys → slice_get xs n ≡ Some x
at_drop zero [] x ys is = absurd (cc)
at_drop zero (y ∷ xs) x ys is = cc
at_drop (suc n) [] x ys is = absurd (cc)
at_drop (suc n) (y ∷ xs) x ys is = at_drop n xs x ys is

-- An object of the graph and the object's counterpart in the tree agree.
shown : (g : List Obj) (v : Val) (tree : Tree) (ks : List ℕ) (c k : ℕ) (o : Obj) (os : List Obj) → IsNumbering g v tree ks
    → slice_get ks c ≡ Some k → drop c (objects_of tree 0) ≡ o ∷ os → AgreeObjects (numbered ks) (object_at g k) o
shown g v tree ks c k o os numbering at_c is =
    let there = AllZip-at (Shows g ks) ks (objects_of tree 0) c k numbering.objects at_c in
    let shows : Shows g ks k o = subst (λ p. IsSomeAnd p (λ b. Shows g ks k b)) (at_drop c (objects_of tree 0) o os is) there in
    let a = IsSomeAnd-some (slice_get g k) (λ a. AgreeObjects (numbered ks) a o) shows in
    subst (λ x. AgreeObjects (numbered ks) x o) (sym (get_or_from_slice_get g k a.0 (objects.I32 (pos 0)) a.1)) a.2

-- The object `a` agrees with a block of this tag and these values.
record IsBlockOf (pairs : List (ℕ × ℕ)) (a : Obj) (tag : ℕ) (values : List Val) : Type 0 where
  token : object_token a ≡ block tag (length values)
  agree : AllZip (Agree pairs) (fields_of a) values

agree_block : (pairs : List (ℕ × ℕ)) (a : Obj) (tag : ℕ) (values : List Val) → AgreeObjects pairs a (objects.Block tag values) → IsBlockOf pairs a tag values
agree_block pairs (objects.Block tag' values') tag values agree = record {
  token = ap₂ block agree.0 (sym (AllZip-long (Agree pairs) values' values agree.1));
  agree = agree.1;
}
agree_block pairs (objects.Bytes bytes) tag values agree = absurd (cc)
agree_block pairs (objects.Double bits) tag values agree = absurd (cc)
agree_block pairs (objects.Doubles all) tag values agree = absurd (cc)
agree_block pairs (objects.I32 z) tag values agree = absurd (cc)
agree_block pairs (objects.I64 z) tag values agree = absurd (cc)
agree_block pairs (objects.Native z) tag values agree = absurd (cc)

record IsLeafOf (a o : Obj) : Type 0 where
  token : object_token a ≡ leaf o
  fields : fields_of a ≡ []

agree_leaf : (pairs : List (ℕ × ℕ)) (a o : Obj) → IsLeaf o → AgreeObjects pairs a o → IsLeafOf a o
agree_leaf pairs (objects.Block tag values) o h agree = absurd (no_block_agrees_leaf pairs tag values o h agree)
agree_leaf pairs (objects.Bytes bytes) o h agree = record { token = ap leaf agree; fields = refl }
agree_leaf pairs (objects.Double bits) o h agree = record { token = ap leaf agree; fields = refl }
agree_leaf pairs (objects.Doubles all) o h agree = record { token = ap leaf agree; fields = refl }
agree_leaf pairs (objects.I32 z) o h agree = record { token = ap leaf agree; fields = refl }
agree_leaf pairs (objects.I64 z) o h agree = record { token = ap leaf agree; fields = refl }
agree_leaf pairs (objects.Native z) o h agree = record { token = ap leaf agree; fields = refl }

-- ---- a reference

-- A reference leads to the next object of the tree or to an earlier object.
pub record Meets (g : List Obj) (tree : Tree) (ks : List ℕ) (c : ℕ) (forest : Forest) (k : ℕ) (values : List Val) : Type 0 where
  pub at_c : slice_get ks c ≡ Some k
  pub goes : Goes tree ks c forest (object_token (object_at g k)) (c + 1) (fields_of (object_at g k) ++ values)

meets_block : (g : List Obj) (v : Val) (tree : Tree) (ks : List ℕ) (c k tag size : ℕ) (s f : Forest) (values : List Val) → IsNumbering g v tree ks
    → AreLeft tree ks c (more (node (block tag size) s) f) (vals.Ref k ∷ values) → Meets g tree ks c (more (node (block tag size) s) f) k values
meets_block g v tree ks c k tag size s f values numbering left =
    let at_c = at_numbered ks k c left.agree.0 in
    let b = agree_block (numbered ks) (object_at g k) tag (roots s (c + 1))
    (shown g v tree ks c k (objects.Block tag (roots s (c + 1))) (all_objects s (c + 1) ++ all_objects f (c + (1 + all_made s))) numbering at_c left.objects) in
    let many : length (roots s (c + 1)) ≡ size = length-roots s (c + 1) ∙ left.are_trees.0.1 in
    let same : object_token (object_at g k) ≡ block tag size = b.token ∙ ap (block tag) many in record {
      at_c = at_c;
      goes = record {
        rest = join s f;
        tokens_are = tokens_after (block tag size) s f ∙ ap (λ t. t ∷ forest_tokens (join s f)) (sym same);
        left = enter tree ks c (block tag size) s f (vals.Ref k) (fields_of (object_at g k)) values left b.agree;
      };
    }

meets_leaf : (g : List Obj) (v : Val) (tree : Tree) (ks : List ℕ) (c k : ℕ) (o : Obj) (s f : Forest) (values : List Val) → IsNumbering g v tree ks → s ≡ none
    → AreLeft tree ks c (more (node (leaf o) s) f) (vals.Ref k ∷ values) → Meets g tree ks c (more (node (leaf o) s) f) k values
meets_leaf g v tree ks c k o (more t s) f values numbering no_fields left = absurd (cc)
meets_leaf g v tree ks c k o none f values numbering no_fields left =
    let h : IsLeaf o = left.are_trees.0.0 in
    let one : made_by (leaf o) ≡ 1 = made_by_leaf o h in
    let at_c = at_numbered ks k c left.agree.0 in
    let l = agree_leaf (numbered ks) (object_at g k) o h
    (shown g v tree ks c k o (all_objects f (c + (made_by (leaf o) + 0))) numbering at_c (left.objects ∙ one_object o h c f)) in
    let position : c + made_by (leaf o) ≡ c + 1 = ap (λ n. c + n) one in record {
      at_c = at_c;
      goes = record {
        rest = f;
        tokens_are = ap (λ t. t ∷ forest_tokens f) (sym l.token);
        left = subst (λ n. AreLeft tree ks n f (fields_of (object_at g k) ++ values)) position
            (subst (λ vs. AreLeft tree ks (c + made_by (leaf o)) f (vs ++ values)) (sym l.fields) (enter tree ks c (leaf o) none f (vals.Ref k) [] values left tt));
      };
    } where
      one_object : (o : Obj) → IsLeaf o → (c : ℕ) (f : Forest) → all_objects (more (node (leaf o) none) f) c ≡ o ∷ all_objects f (c + (made_by (leaf o) + 0))
      one_object (objects.Block tag values) h c f = absurd h
      one_object (objects.Bytes bytes) h c f = refl
      one_object (objects.Double bits) h c f = refl
      one_object (objects.Doubles all) h c f = refl
      one_object (objects.I32 z) h c f = refl
      one_object (objects.I64 z) h c f = refl
      one_object (objects.Native z) h c f = refl

pub object_next : (g : List Obj) (v : Val) (tree : Tree) (ks : List ℕ) (c k : ℕ) (marks : List ℕ) (forest : Forest) (values : List Val) → IsNumbering g v tree ks → AreMarked g ks c marks
    → slice_index marks k ≡ 0 → AreLeft tree ks c forest (vals.Ref k ∷ values) → Meets g tree ks c forest k values
object_next g v tree ks c k marks none values numbering marked new left = absurd left.agree
object_next g v tree ks c k marks (more (node (integer z) s) f) values numbering marked new left = absurd left.agree.0
object_next g v tree ks c k marks (more (node (atom tag) s) f) values numbering marked new left = absurd left.agree.0
object_next g v tree ks c k marks (more (node (shared d) s) f) values numbering marked new left =
    let earlier : c - d < c = omega (arith, left.back.0.0.0, left.back.0.0.1) in
    let mark = marked.found (c - d) k earlier (at_numbered ks k (c - d) left.agree.0) in absurd (omega arith)
object_next g v tree ks c k marks (more (node (block tag size) s) f) values numbering marked new left = meets_block g v tree ks c k tag size s f values numbering left
object_next g v tree ks c k marks (more (node (leaf o) s) f) values numbering marked new left =
    meets_leaf g v tree ks c k o s f values numbering (none_from_count s (left.are_trees.0.1 ∙ leaf_fields o)) left

pub reference_next : (g : List Obj) (v : Val) (tree : Tree) (ks : List ℕ) (c k i : ℕ) (marks : List ℕ) (forest : Forest) (values : List Val) → IsNumbering g v tree ks → AreMarked g ks c marks
    → slice_index marks k ≡ suc i → AreLeft tree ks c forest (vals.Ref k ∷ values) → Goes tree ks c forest (shared (c - i)) c values
reference_next g v tree ks c k i marks none values numbering marked is left = absurd left.agree
reference_next g v tree ks c k i marks (more (node (integer z) s) f) values numbering marked is left = absurd left.agree.0
reference_next g v tree ks c k i marks (more (node (atom tag) s) f) values numbering marked is left = absurd left.agree.0
reference_next g v tree ks c k i marks (more (node (shared d) s) f) values numbering marked is left =
    let some : 1 ≤ d = left.back.0.0.0 in
    let few : d ≤ c = left.back.0.0.1 in
    let earlier : c - d < c = omega arith in
    let mark = marked.found (c - d) k earlier (at_numbered ks k (c - d) left.agree.0) in
    let same : d ≡ c - i = omega arith in
    subst (λ x. Goes tree ks c (more (node (shared d) s) f) (shared x) c values) same
    (passes tree ks c (shared d) s f (vals.Ref k) values refl left.are_trees.0.1 left)
reference_next g v tree ks c k i marks (more (node (block tag size) s) f) values numbering marked is left =
    let m = marked.named i k is in
    let e : i ≡ c = numbering.distinct i c k m.1 (at_numbered ks k c left.agree.0) in
    let less : i < c = m.0 in absurd (omega arith)
reference_next g v tree ks c k i marks (more (node (leaf o) s) f) values numbering marked is left =
    let m = marked.named i k is in
    let e : i ≡ c = numbering.distinct i c k m.1 (at_numbered ks k c left.agree.0) in
    let less : i < c = m.0 in absurd (omega arith)
