-- If the values of two trees are isomorphic, then the trees are equal.
use Rattle.std.proofs.Common.{ℕ, ◌≡◌, ◌+◌, ◌-◌, ◌<◌, ◌≤◌, ◌∙◌, List, ◌∷◌, ◌++◌, length, Some, refl, sym, ap, ap₂, subst, inl, inr, arith, add-zero}
use Rattle.std.specs.Prelude.{slice_get, Contains}
use Rattle.std.specs.List.{AllZip}
use Rattle.std.proofs.lemmas.Option.{same_Some}
use Rattle.base_data.proofs.model.Options.{same_or_not}
use Rattle.base_data.specs.declared.model.value.Val.{Val}
use Rattle.base_data.specs.declared.model.value.Obj.{Obj}
use Rattle.base_data.specs.declared.model.value.Obj.TheVariants as objects
use Rattle.base_data.proofs.model.Lists.{slice_get-append_left}
use Rattle.marshal_spec.specs.format.Token.{Token, integer, atom, shared, block, leaf, IsLeaf, IsToken}
use Rattle.marshal_spec.specs.format.Tree.{Tree, Forest, node, none, more, trees_in, IsTree, AreTrees, root, roots, made, made_by, all_made, object_of, objects_of, all_objects, ReferBack, AllReferBack}
use Rattle.marshal_spec.specs.format.Isomorphism.{Agree, AgreeObjects, IsPairing, IsTreeOf}
use Rattle.marshal_spec.proofs.format.Counts.{leaf_fields, length-object_of, length-objects_of}
pub use Rattle.marshal_spec.proofs.format.Counts.{made_by_leaf}
use Rattle.marshal_spec.proofs.canonical.CanonicalListLemmas.{slice_get_right}
use Rattle.marshal_spec.proofs.canonical.IsomorphismLemmas.{objects_of_pair, same_symmetric, same_transitive}

-- ---- objects at a position

-- The objects of the list are in the graph, from position `c` on.
abbrev StandsAt : List Obj → ℕ → List Obj → Type 0
StandsAt graph c objects = (i : ℕ) (o : Obj) → slice_get objects i ≡ Some o → slice_get graph (c + i) ≡ Some o

StandsAt-left : (graph : List Obj) (c : ℕ) (xs ys : List Obj) → StandsAt graph c (xs ++ ys) → StandsAt graph c xs
StandsAt-left graph c xs ys all i o is = all i o (slice_get-append_left xs ys i o is)

StandsAt-right : (graph : List Obj) (c n : ℕ) (xs ys : List Obj) → length xs ≡ n → StandsAt graph c (xs ++ ys) → StandsAt graph (c + n) ys
StandsAt-right graph c n xs ys e all i o is =
    let r = all (length xs + i) o (slice_get_right xs ys i ∙ is) in
    let position : c + (length xs + i) ≡ c + n + i = omega arith in
    rw position at r

stands_whole : (graph : List Obj) → StandsAt graph 0 graph
stands_whole graph i o is = let e : 0 + i ≡ i = omega arith in rw e is

-- The objects of a token's subtrees follow the token's own object.
fields_stand : (graph : List Obj) (c : ℕ) (t : Token) (f : Forest) → IsToken t → StandsAt graph c (objects_of (node t f) c) → StandsAt graph (c + made_by t) (all_objects f (c + made_by t))
fields_stand graph c t f h stands =
    StandsAt-right graph c (made_by t) (object_of t (roots f (c + made_by t))) (all_objects f (c + made_by t)) (length-object_of t (roots f (c + made_by t)) h) stands

-- ---- paired objects

-- Each of the first `c` objects is paired with itself.
abbrev ArePaired : List (ℕ × ℕ) → ℕ → Type 0
ArePaired pairs c = (k : ℕ) → k < c → Contains pairs (k, k)

-- If an object without fields agrees with another object, then the two objects are equal.
agree_leaf : (pairs : List (ℕ × ℕ)) (a b : Obj) → IsLeaf a → AgreeObjects pairs a b → a ≡ b
agree_leaf pairs (objects.Block tag values) b h agree = absurd h
agree_leaf pairs (objects.Bytes bytes) b h agree = agree
agree_leaf pairs (objects.Double bits) b h agree = agree
agree_leaf pairs (objects.Doubles all) b h agree = agree
agree_leaf pairs (objects.I32 z) b h agree = agree
agree_leaf pairs (objects.I64 z) b h agree = agree
agree_leaf pairs (objects.Native z) b h agree = agree

no_leaf_is_block : (a : Obj) (tag : ℕ) (values : List Val) → IsLeaf a → a ≡ objects.Block tag values → ⊥
no_leaf_is_block a tag values h e = subst IsLeaf e h

pub no_block_agrees_leaf : (pairs : List (ℕ × ℕ)) (tag : ℕ) (values : List Val) (b : Obj) → IsLeaf b → AgreeObjects pairs (objects.Block tag values) b → ⊥
no_block_agrees_leaf pairs tag values (objects.Block tag' values') h agree = h
no_block_agrees_leaf pairs tag values b h agree = agree

-- A forest of zero trees is empty.
pub none_from_count : (f : Forest) → trees_in f ≡ 0 → f ≡ none
none_from_count none e = refl
none_from_count (more t f) e = absurd (omega arith)

-- If a pairing contains `(k, l)`, then the objects at `k` and at `l` agree.
pair_at : (g h : List Obj) (pairs : List (ℕ × ℕ)) (k l : ℕ) (a b : Obj) → IsPairing g h pairs → Contains pairs (k, l) → slice_get g k ≡ Some a → slice_get h l ≡ Some b → AgreeObjects pairs a b
pair_at g h pairs k l a b pairing among at_k at_l =
    let o = objects_of_pair g h pairs k l pairing among in
    let left : o.left ≡ a = same_Some o.left a (sym o.left_is ∙ at_k) in
    let right : o.right ≡ b = same_Some o.right b (sym o.right_is ∙ at_l) in
    subst (λ x. AgreeObjects pairs x b) left (subst (λ y. AgreeObjects pairs o.left y) right o.agree)

-- The object `c` is not paired with an object before `c`.
not_earlier : (g h : List Obj) (pairs : List (ℕ × ℕ)) (c d : ℕ) → IsPairing g h pairs → ArePaired pairs c → 1 ≤ d → d ≤ c → Contains pairs (c, c - d) → ⊥
not_earlier g h pairs c d pairing paired some few among =
    let same : c ≡ c - d = (pairing.one_to_one c (c - d) (c - d) (c - d) among (paired (c - d) (omega arith))).1 refl in
    omega arith

not_later : (g h : List Obj) (pairs : List (ℕ × ℕ)) (c d : ℕ) → IsPairing g h pairs → ArePaired pairs c → 1 ≤ d → d ≤ c → Contains pairs (c - d, c) → ⊥
not_later g h pairs c d pairing paired some few among =
    let same : c ≡ c - d = (pairing.one_to_one (c - d) c (c - d) (c - d) among (paired (c - d) (omega arith))).0 refl in
    omega arith

one_more : (pairs : List (ℕ × ℕ)) (c : ℕ) → ArePaired pairs c → Contains pairs (c, c) → ArePaired pairs (c + 1)
one_more pairs c paired here k less =
    elim (same_or_not k c) [ inl e ↦ subst (λ n. Contains pairs (n, n)) (sym e) here | inr e ↦ paired k (omega arith) ]

-- ---- trees

abbrev AreOne : List (ℕ × ℕ) → ℕ → Tree → Tree → Type 0
AreOne pairs c t u = (t ≡ u) × ArePaired pairs (c + made t)

abbrev AreOneForest : List (ℕ × ℕ) → ℕ → Forest → Forest → Type 0
AreOneForest pairs c f h = (f ≡ h) × ArePaired pairs (c + all_made f)

-- If two tokens without fields are equal, then their trees are equal.
one_token : (pairs : List (ℕ × ℕ)) (c : ℕ) (t u : Token) (f h : Forest) → t ≡ u → trees_in f ≡ 0 → trees_in h ≡ 0 → ArePaired pairs (c + made_by t) → AreOne pairs c (node t f) (node u h)
one_token pairs c t u none none e m n paired = (ap (λ x. node x none) e, rw add-zero paired)
one_token pairs c t u none (more x h) e m n paired = absurd (omega arith)
one_token pairs c t u (more x f) h e m n paired = absurd (omega arith)

-- If the first objects of two trees are paired, then the two objects agree.
first_objects : (g h : List Obj) (pairs : List (ℕ × ℕ)) (c : ℕ) (a b : Obj) (more_a more_b : List Obj) → IsPairing g h pairs → Contains pairs (c, c) → StandsAt g c (a ∷ more_a) → StandsAt h c (b ∷ more_b) → AgreeObjects pairs a b
first_objects g h pairs c a b more_a more_b pairing among left right =
    let at_g : slice_get g c ≡ Some a = rw add-zero at (left 0 a refl) in
    let at_h : slice_get h c ≡ Some b = rw add-zero at (right 0 b refl) in
    pair_at g h pairs c c a b pairing among at_g at_h

-- The hypotheses on two trees that follow `c` objects.
record AreSame (g h : List Obj) (pairs : List (ℕ × ℕ)) (c : ℕ) (t u : Tree) : Type 0 where
  is_tree : IsTree t
  is_tree' : IsTree u
  back : ReferBack t c
  back' : ReferBack u c
  stands : StandsAt g c (objects_of t c)
  stands' : StandsAt h c (objects_of u c)
  paired : ArePaired pairs c
  agree : Agree pairs (root t c) (root u c)

-- The hypotheses on two lists of trees that follow `c` objects.
record AreSameForests (g h : List Obj) (pairs : List (ℕ × ℕ)) (c : ℕ) (f k : Forest) : Type 0 where
  are_trees : AreTrees f
  are_trees' : AreTrees k
  back : AllReferBack f c
  back' : AllReferBack k c
  stand : StandsAt g c (all_objects f c)
  stand' : StandsAt h c (all_objects k c)
  paired : ArePaired pairs c
  agree : AllZip (Agree pairs) (roots f c) (roots k c)

-- If two references lead to paired objects, then the references have the same offset.
same_references : (g h : List Obj) (pairs : List (ℕ × ℕ)) (c d e : ℕ) → IsPairing g h pairs → ArePaired pairs c → 1 ≤ d → d ≤ c → e ≤ c → Contains pairs (c - d, c - e) → d ≡ e
same_references g h pairs c d e pairing paired some few few' among =
    let same : c - e ≡ c - d = (pairing.one_to_one (c - d) (c - e) (c - d) (c - d) among (paired (c - d) (omega arith))).0 refl in
    omega arith

-- If the fields of two agreeing blocks are equal whenever the fields agree, then the trees of the
-- two blocks are equal.
same_blocks : (g h : List Obj) (pairs : List (ℕ × ℕ)) (c tag tag' m n : ℕ) (f k : Forest) → IsPairing g h pairs → AreSame g h pairs c (node (block tag m) f) (node (block tag' n) k) → (AreSameForests g h pairs (c + 1) f k → AreOneForest pairs (c + 1) f k) → AreOne pairs c (node (block tag m) f) (node (block tag' n) k)
same_blocks g h pairs c tag tag' m n f k pairing s deeper =
    let agree = first_objects g h pairs c (objects.Block tag (roots f (c + 1))) (objects.Block tag' (roots k (c + 1))) (all_objects f (c + 1)) (all_objects k (c + 1)) pairing s.agree s.stands s.stands' in
    let r = deeper (record {
      are_trees = s.is_tree.2;
      are_trees' = s.is_tree'.2;
      back = s.back.1;
      back' = s.back'.1;
      stand = fields_stand g c (block tag m) f s.is_tree.0 s.stands;
      stand' = fields_stand h c (block tag' n) k s.is_tree'.0 s.stands';
      paired = one_more pairs c s.paired s.agree;
      agree = agree.1;
    }) in
    let size : m ≡ n = sym s.is_tree.1 ∙ ap trees_in r.0 ∙ s.is_tree'.1 in
    let position : c + 1 + all_made f ≡ c + (1 + all_made f) = omega arith in
    (ap₂ node (ap₂ block agree.0 size) r.0, rw position at r.1)

-- If two objects without fields agree, then the trees of the two objects are equal.
same_leaves : (g h : List Obj) (pairs : List (ℕ × ℕ)) (c : ℕ) (a b : Obj) (f k : Forest) → IsPairing g h pairs → AreSame g h pairs c (node (leaf a) f) (node (leaf b) k) → AreOne pairs c (node (leaf a) f) (node (leaf b) k)
same_leaves g h pairs c a b f k pairing s =
    let agree = first_objects g h pairs c a b (all_objects f (c + made_by (leaf a))) (all_objects k (c + made_by (leaf b))) pairing s.agree s.stands s.stands' in
    let same : a ≡ b = agree_leaf pairs a b s.is_tree.0 agree in
    one_token pairs c (leaf a) (leaf b) f k (ap leaf same) (s.is_tree.1 ∙ leaf_fields a) (s.is_tree'.1 ∙ leaf_fields b)
    (rw (made_by_leaf a s.is_tree.0) (one_more pairs c s.paired s.agree))

-- An object without fields and a block do not agree.
leaf_and_block : (g h : List Obj) (pairs : List (ℕ × ℕ)) (c tag n : ℕ) (a : Obj) (f k : Forest) → IsPairing g h pairs → AreSame g h pairs c (node (leaf a) f) (node (block tag n) k) → ⊥
leaf_and_block g h pairs c tag n a f k pairing s =
    let agree = first_objects g h pairs c a (objects.Block tag (roots k (c + 1))) (all_objects f (c + made_by (leaf a))) (all_objects k (c + 1)) pairing s.agree s.stands s.stands' in
    no_leaf_is_block a tag (roots k (c + 1)) s.is_tree.0 (agree_leaf pairs a (objects.Block tag (roots k (c + 1))) s.is_tree.0 agree)

block_and_leaf : (g h : List Obj) (pairs : List (ℕ × ℕ)) (c tag n : ℕ) (b : Obj) (f k : Forest) → IsPairing g h pairs → AreSame g h pairs c (node (block tag n) f) (node (leaf b) k) → ⊥
block_and_leaf g h pairs c tag n b f k pairing s =
    let agree = first_objects g h pairs c (objects.Block tag (roots f (c + 1))) b (all_objects f (c + 1)) (all_objects k (c + made_by (leaf b))) pairing s.agree s.stands s.stands' in
    no_block_agrees_leaf pairs tag (roots f (c + 1)) b s.is_tree'.0 agree

-- If two trees have isomorphic values, then the trees are equal, by cases on the first tokens of
-- the trees.
same_by_tokens : (g h : List Obj) (pairs : List (ℕ × ℕ)) (c : ℕ) (t u : Token) (f k : Forest) → IsPairing g h pairs → AreSame g h pairs c (node t f) (node u k) → (AreSameForests g h pairs (c + 1) f k → AreOneForest pairs (c + 1) f k) → AreOne pairs c (node t f) (node u k)
same_by_tokens g h pairs c (integer y) (integer z) f k pairing s deeper =
    one_token pairs c (integer y) (integer z) f k (ap integer s.agree) s.is_tree.1 s.is_tree'.1 (rw add-zero s.paired)
same_by_tokens g h pairs c (atom y) (atom z) f k pairing s deeper =
    one_token pairs c (atom y) (atom z) f k (ap atom s.agree) s.is_tree.1 s.is_tree'.1 (rw add-zero s.paired)
same_by_tokens g h pairs c (shared d) (shared e) f k pairing s deeper =
    one_token pairs c (shared d) (shared e) f k
    (ap shared (same_references g h pairs c d e pairing s.paired s.back.0.0 s.back.0.1 s.back'.0.1 s.agree)) s.is_tree.1 s.is_tree'.1 (rw add-zero s.paired)
same_by_tokens g h pairs c (shared d) (block tag n) f k pairing s deeper = absurd (not_later g h pairs c d pairing s.paired s.back.0.0 s.back.0.1 s.agree)
same_by_tokens g h pairs c (shared d) (leaf b) f k pairing s deeper = absurd (not_later g h pairs c d pairing s.paired s.back.0.0 s.back.0.1 s.agree)
same_by_tokens g h pairs c (block tag n) (shared e) f k pairing s deeper = absurd (not_earlier g h pairs c e pairing s.paired s.back'.0.0 s.back'.0.1 s.agree)
same_by_tokens g h pairs c (leaf a) (shared e) f k pairing s deeper = absurd (not_earlier g h pairs c e pairing s.paired s.back'.0.0 s.back'.0.1 s.agree)
same_by_tokens g h pairs c (block tag m) (block tag' n) f k pairing s deeper = same_blocks g h pairs c tag tag' m n f k pairing s deeper
same_by_tokens g h pairs c (leaf a) (leaf b) f k pairing s deeper = same_leaves g h pairs c a b f k pairing s
same_by_tokens g h pairs c (leaf a) (block tag n) f k pairing s deeper = absurd (leaf_and_block g h pairs c tag n a f k pairing s)
same_by_tokens g h pairs c (block tag n) (leaf b) f k pairing s deeper = absurd (block_and_leaf g h pairs c tag n b f k pairing s)
same_by_tokens g h pairs c t u f k pairing s deeper = absurd s.agree

-- If the first trees of two lists are equal, then the hypotheses on the lists hold for the lists
-- without the first trees.
rest_of_forests : (g h : List Obj) (pairs : List (ℕ × ℕ)) (c : ℕ) (t u : Tree) (f k : Forest) → AreSameForests g h pairs c (more t f) (more u k) → AreOne pairs c t u → AreSameForests g h pairs (c + made t) f k
rest_of_forests g h pairs c t u f k s one =
    let same : made u ≡ made t = ap made (sym one.0) in record {
      are_trees = s.are_trees.1;
      are_trees' = s.are_trees'.1;
      back = s.back.1;
      back' = subst (λ n. AllReferBack k (c + n)) same s.back'.1;
      stand = StandsAt-right g c (made t) (objects_of t c) (all_objects f (c + made t)) (length-objects_of t c s.are_trees.0) s.stand;
      stand' = subst (λ n. StandsAt h (c + n) (all_objects k (c + n))) same
          (StandsAt-right h c (made u) (objects_of u c) (all_objects k (c + made u)) (length-objects_of u c s.are_trees'.0) s.stand');
      paired = one.1;
      agree = subst (λ n. AllZip (Agree pairs) (roots f (c + made t)) (roots k (c + n))) same s.agree.1;
    }

first_of_forests : (g h : List Obj) (pairs : List (ℕ × ℕ)) (c : ℕ) (t u : Tree) (f k : Forest) → AreSameForests g h pairs c (more t f) (more u k) → AreSame g h pairs c t u
first_of_forests g h pairs c t u f k s = record {
  is_tree = s.are_trees.0;
  is_tree' = s.are_trees'.0;
  back = s.back.0;
  back' = s.back'.0;
  stands = StandsAt-left g c (objects_of t c) (all_objects f (c + made t)) s.stand;
  stands' = StandsAt-left h c (objects_of u c) (all_objects k (c + made u)) s.stand';
  paired = s.paired;
  agree = s.agree.0;
}

join_forests : (pairs : List (ℕ × ℕ)) (c : ℕ) (t u : Tree) (f k : Forest) → AreOne pairs c t u → AreOneForest pairs (c + made t) f k → AreOneForest pairs c (more t f) (more u k)
join_forests pairs c t u f k one rest =
    let position : c + made t + all_made f ≡ c + (made t + all_made f) = omega arith in
    (ap₂ more one.0 rest.0, rw position at rest.1)

mutual
  same_trees : (g h : List Obj) (pairs : List (ℕ × ℕ)) (c : ℕ) (t u : Tree) → IsPairing g h pairs → AreSame g h pairs c t u → AreOne pairs c t u
  same_trees g h pairs c (node t f) (node u k) pairing s = same_by_tokens g h pairs c t u f k pairing s (same_forests g h pairs (c + 1) f k pairing)

  same_forests : (g h : List Obj) (pairs : List (ℕ × ℕ)) (c : ℕ) (f k : Forest) → IsPairing g h pairs → AreSameForests g h pairs c f k → AreOneForest pairs c f k
  same_forests g h pairs c none none pairing s = (refl, rw add-zero s.paired)
  same_forests g h pairs c none (more u k) pairing s = absurd s.agree
  same_forests g h pairs c (more t f) none pairing s = absurd s.agree
  same_forests g h pairs c (more t f) (more u k) pairing s =
      let one = same_trees g h pairs c t u pairing (first_of_forests g h pairs c t u f k s) in
      join_forests pairs c t u f k one (same_forests g h pairs (c + made t) f k pairing (rest_of_forests g h pairs c t u f k s one))

-- If two trees are trees of one value, then the two trees are equal.
pub one_tree_only : (g : List Obj) (v : Val) (t u : Tree) → IsTreeOf g v t → IsTreeOf g v u → t ≡ u
one_tree_only g v t u is other =
    let r = same_transitive (objects_of t 0) g (objects_of u 0) (root t 0) v (root u 0) (same_symmetric g (objects_of t 0) v (root t 0) is.same) other.same in
    (same_trees (objects_of t 0) (objects_of u 0) r.0 0 t u r.1 (record {
      is_tree = is.is_tree;
      is_tree' = other.is_tree;
      back = is.refers_back;
      back' = other.refers_back;
      stands = stands_whole (objects_of t 0);
      stands' = stands_whole (objects_of u 0);
      paired = λ k less. absurd (omega arith);
      agree = r.2;
    })).0
