-- Each value of a graph has a tree. A depth-first walk visits the objects of the graph. Each
-- repeated visit of an object becomes a reference.
use Rattle.std.proofs.Common.{ℕ, zero, suc, ◌≡◌, ◌≢◌, ◌+◌, ◌-◌, ◌<◌, ◌≤◌, ◌∙◌, ◌⊎◌, inl, inr, ⊎_elim, List, [], ◌∷◌, ◌++◌, length, Some, refl, sym, ap, subst, arith, add-zero, append_assoc, append-nil, length-append}
use Rattle.std.specs.Prelude.{slice_get, Contains, All}
use Rattle.std.specs.List.{AllZip}
use Rattle.std.proofs.lemmas.List.{length_push}
use Rattle.std.proofs.lemmas.List.Elements.{All-head, All-tail, All-contains}
use Rattle.std.proofs.lemmas.Option.{same_Some, none-some, slice_get_within}
use Rattle.base_data.proofs.model.Options.{IsSomeAnd-some, IsSomeAnd-at, Contains-first, Contains-later, Contains-none, Contains-cases, slice_get-Contains, same_or_not, slice_get_there}
use Rattle.base_data.specs.declared.model.value.Val.{Val}
use Rattle.base_data.specs.declared.model.value.Val.TheVariants as vals
use Rattle.base_data.specs.declared.model.value.Obj.{Obj}
use Rattle.base_data.specs.declared.model.value.Obj.TheVariants as objects
use Rattle.base_data.specs.model.Graph.{IsValue, IsObject, IsGraph}
use Rattle.base_data.proofs.model.Lists.{slice_get-append_left}
use Rattle.marshal_spec.specs.format.Token.{Token, integer, atom, shared, block, leaf, IsLeaf}
use Rattle.marshal_spec.specs.format.Tree.{Tree, Forest, node, none, more, trees_in, IsTree, AreTrees, root, roots, made, made_by, all_made, objects_of, all_objects, ReferBack, AllReferBack}
use Rattle.marshal_spec.specs.format.Isomorphism.{Agree, AgreeObjects, IsPairing, IsTreeOf}
use Rattle.marshal_spec.proofs.format.Counts.{leaf_fields}
use Rattle.marshal_spec.specs.canonical.Laws.{HasOneTree}
use Rattle.marshal_spec.specs.canonical.Numbering.{pairs_from, numbered, AreDistinct, Shows, IsNumbering}
use Rattle.marshal_spec.proofs.canonical.CanonicalListLemmas.{IsSomeAnd-weaker, slice_get_push, slice_get_push_cases, below, Contains-below, AllZip-weaker, AllZip-append, AllZip-at}
use Rattle.marshal_spec.proofs.canonical.IsomorphismLemmas.{AreAmong, Agree-more, AgreeObjects-more, agree_at}
use Rattle.marshal_spec.proofs.canonical.SameTree.{made_by_leaf, one_tree_only}

-- ---- positions of the visited numbers

at_position : (c : ℕ) (ks : List ℕ) (i k : ℕ) → slice_get ks i ≡ Some k → Contains (pairs_from c ks) (k, c + i)
at_position c [] i k is = absurd (none-some k is)
at_position c (m ∷ ks) zero k is =
    let same : m ≡ k = same_Some m k is in
    let position : c + 0 ≡ c = omega arith in
    rw (position, ← same) (Contains-first (m, c) (pairs_from (c + 1) ks))
at_position c (m ∷ ks) (suc i) k is =
    let position : c + 1 + i ≡ c + suc i = omega arith in
    Contains-later (m, c) (pairs_from (c + 1) ks) (k, c + suc i) (rw position at (at_position (c + 1) ks i k is))

record IsAtPosition (c : ℕ) (ks : List ℕ) (k n : ℕ) : Type 0 where
  position : ℕ
  is : n ≡ c + position
  there : slice_get ks position ≡ Some k

position_of : (c : ℕ) (ks : List ℕ) (k n : ℕ) → Contains (pairs_from c ks) (k, n) → IsAtPosition c ks k n
position_of c [] k n among = absurd (Contains-none (k, n) among)
position_of c (m ∷ ks) k n among = ⊎_elim
    (λ here. record {
      position = 0;
      is = let e : c ≡ n = ap (λ (p : ℕ × ℕ). p.1) here in omega arith;
      there = ap Some (ap (λ (p : ℕ × ℕ). p.0) here);
    })
    (λ later. let r = position_of (c + 1) ks k n later in record { position = suc r.position; is = let e = r.is in omega arith; there = r.there })
    (Contains-cases (m, c) (pairs_from (c + 1) ks) (k, n) among)

pub numbered_at : (ks : List ℕ) (i k : ℕ) → slice_get ks i ≡ Some k → Contains (numbered ks) (k, i)
numbered_at ks i k is = let e : 0 + i ≡ i = omega arith in rw e at (at_position 0 ks i k is)

pub at_numbered : (ks : List ℕ) (k n : ℕ) → Contains (numbered ks) (k, n) → slice_get ks n ≡ Some k
at_numbered ks k n among = let r = position_of 0 ks k n among in let e : n ≡ r.position = omega (arith, r.is) in rw e r.there

numbered-more : (ks news : List ℕ) → AreAmong (numbered ks) (numbered (ks ++ news))
numbered-more ks news k l among = numbered_at (ks ++ news) l k (slice_get-append_left ks news l k (at_numbered ks k l among))

-- ---- visited objects

abbrev IsMet : List ℕ → ℕ → Type 0
IsMet ks k = (i : ℕ) × (slice_get ks i ≡ Some k)

abbrev IsNew : List ℕ → ℕ → Type 0
IsNew ks k = (i : ℕ) → slice_get ks i ≡ Some k → ⊥

met_or_new : (ks : List ℕ) (k : ℕ) → IsMet ks k ⊎ IsNew ks k
met_or_new [] k = inr (λ i is. none-some k is)
met_or_new (m ∷ ks) k = met_or_later m ks k (same_or_not m k) (met_or_new ks k) where
  met_or_later : (m : ℕ) (ks : List ℕ) (k : ℕ) → (m ≡ k) ⊎ (m ≢ k) → IsMet ks k ⊎ IsNew ks k → IsMet (m ∷ ks) k ⊎ IsNew (m ∷ ks) k
  met_or_later m ks k (inl same) rest = inl (0, ap Some same)
  met_or_later m ks k (inr other) (inl met) = inl (suc met.0, met.1)
  met_or_later m ks k (inr other) (inr new) = inr (new_in m ks k other new) where
    new_in : (m : ℕ) (ks : List ℕ) (k : ℕ) → m ≢ k → IsNew ks k → IsNew (m ∷ ks) k
    new_in m ks k other new zero is = other (same_Some m k is)
    new_in m ks k other new (suc i) is = new i is

distinct_cases : (ks : List ℕ) (k i j m : ℕ) → AreDistinct ks → IsNew ks k → (slice_get ks i ≡ Some m) ⊎ ((i ≡ length ks) × (m ≡ k)) → (slice_get ks j ≡ Some m) ⊎ ((j ≡ length ks) × (m ≡ k)) → i ≡ j
distinct_cases ks k i j m distinct new (inl a) (inl b) = distinct i j m a b
distinct_cases ks k i j m distinct new (inl a) (inr b) = absurd (new i (rw b.1 at a))
distinct_cases ks k i j m distinct new (inr a) (inl b) = absurd (new j (rw a.1 at b))
distinct_cases ks k i j m distinct new (inr a) (inr b) = a.0 ∙ sym b.0

AreDistinct-push : (ks : List ℕ) (k : ℕ) → AreDistinct ks → IsNew ks k → AreDistinct (ks ++ k ∷ [])
AreDistinct-push ks k distinct new i j m a b =
    distinct_cases ks k i j m distinct new (slice_get_push_cases ks k i m a) (slice_get_push_cases ks k j m b)

-- ---- objects not yet visited

record IsWithout (ks : List ℕ) (k : ℕ) : Type 0 where
  others : List ℕ
  fewer : suc (length others) ≡ length ks
  kept : (m : ℕ) → m ≢ k → Contains ks m → Contains others m

without : (ks : List ℕ) (k : ℕ) → Contains ks k → IsWithout ks k
without [] k among = absurd (Contains-none k among)
without (m ∷ ks) k among = ⊎_elim
    (λ here. record {
      others = ks;
      fewer = refl;
      kept = λ n other has. ⊎_elim (λ first. absurd (other (sym first ∙ here))) (λ later. later) (Contains-cases m ks n has);
    })
    (λ later. let r = without ks k later in record {
      others = m ∷ r.others;
      fewer = ap suc r.fewer;
      kept = λ n other has. ⊎_elim
          (λ first. subst (λ x. Contains (m ∷ r.others) x) first (Contains-first m r.others))
          (λ rest. Contains-later m r.others n (r.kept n other rest))
          (Contains-cases m ks n has);
    })
    (Contains-cases m ks k among)

-- The state of the walk before a value: the visited objects in the order of their visits, and the
-- objects not yet visited.
record IsReady (g : List Obj) (met unmet : List ℕ) (c fuel : ℕ) : Type 0 where
  count : length met ≡ c
  distinct : AreDistinct met
  covered : (k : ℕ) → k < length g → IsMet met k ⊎ Contains unmet k
  few : length unmet ≤ fuel

IsReady-more : (g : List Obj) (met unmet news : List ℕ) (c fuel n : ℕ) → IsReady g met unmet c fuel → AreDistinct (met ++ news) → n ≡ length news → IsReady g (met ++ news) unmet (c + n) fuel
IsReady-more g met unmet news c fuel n ready distinct many = record {
  count = omega (arith, length-append met news, ready.count);
  distinct = distinct;
  covered = λ k less. ⊎_elim (λ (m : IsMet met k). inl (m.0, slice_get-append_left met news m.0 k m.1)) (λ later. inr later) (ready.covered k less);
  few = ready.few;
}

-- If the walk visits the object `k` for the first time, then the state holds with `k` moved to the
-- visited objects.
IsReady-new : (g : List Obj) (met unmet : List ℕ) (c fuel k : ℕ) → IsReady g met unmet c (suc fuel) → k < length g → IsNew met k → (others : List ℕ) × IsReady g (met ++ k ∷ []) others (c + 1) fuel
IsReady-new g met unmet c fuel k ready less new =
    let among : Contains unmet k = ⊎_elim (λ (m : IsMet met k). absurd (new m.0 m.1)) (λ later. later) (ready.covered k less) in
    let w = without unmet k among in (
      w.others,
      record {
        count = omega (arith, length_push met k, ready.count);
        distinct = AreDistinct-push met k ready.distinct new;
        covered = λ m inside. elim (same_or_not m k) [
          | inl same ↦ inl (length met, rw same (slice_get_push met k))
          | inr other ↦ ⊎_elim (λ (s : IsMet met m). inl (s.0, slice_get-append_left met (k ∷ []) s.0 m s.1)) (λ later. inr (w.kept m other later)) (ready.covered m inside)
        ];
        few = omega (arith, w.fewer, ready.few);
      },
    )

-- ---- the result of a walk

record Walked (g : List Obj) (met : List ℕ) (c : ℕ) (v : Val) : Type 0 where
  tree : Tree
  news : List ℕ
  is_tree : IsTree tree
  back : ReferBack tree c
  many : made tree ≡ length news
  distinct : AreDistinct (met ++ news)
  objects : AllZip (Shows g (met ++ news)) news (objects_of tree c)
  value : Agree (numbered (met ++ news)) v (root tree c)

record WalkedAll (g : List Obj) (met : List ℕ) (c : ℕ) (values : List Val) : Type 0 where
  forest : Forest
  news : List ℕ
  are_trees : AreTrees forest
  count : trees_in forest ≡ length values
  back : AllReferBack forest c
  many : all_made forest ≡ length news
  distinct : AreDistinct (met ++ news)
  objects : AllZip (Shows g (met ++ news)) news (all_objects forest c)
  shown : AllZip (Agree (numbered (met ++ news))) values (roots forest c)

-- ---- a value without a new object

nothing_new : (g : List Obj) (met : List ℕ) (c : ℕ) (v : Val) (t : Token) → AreDistinct met → IsTree (node t none) → ReferBack (node t none) c → made (node t none) ≡ 0 → objects_of (node t none) c ≡ [] → Agree (numbered met) v (root (node t none) c) → Walked g met c v
nothing_new g met c v t distinct is_tree back many no_objects agree = record {
  tree = node t none;
  news = [];
  is_tree = is_tree;
  back = back;
  many = many;
  distinct = rw append-nil distinct;
  objects = rw no_objects tt;
  value = rw append-nil agree;
}

met_before : (g : List Obj) (met : List ℕ) (c i k : ℕ) → length met ≡ c → AreDistinct met → slice_get met i ≡ Some k → Walked g met c (vals.Ref k)
met_before g met c i k count distinct is =
    let inside : i < length met = slice_get_within met i k is in
    let back : c - (c - i) ≡ i = omega arith in
    nothing_new g met c (vals.Ref k) (shared (c - i)) distinct (tt, refl, tt) ((omega arith, omega arith), tt) refl refl
    (rw back (numbered_at met i k is))

-- ---- a new object

first_number : (met news : List ℕ) (c k : ℕ) → length met ≡ c → Contains (numbered (met ++ k ∷ news)) (k, c)
first_number met news c k count =
    let assoc : (met ++ k ∷ []) ++ news ≡ met ++ k ∷ news = append_assoc met (k ∷ []) news in
    let here = slice_get-append_left (met ++ k ∷ []) news (length met) k (slice_get_push met k) in
    numbered_at (met ++ k ∷ news) c k (rw (assoc, count) at here)

leaf_agrees : (pairs : List (ℕ × ℕ)) (o : Obj) → IsLeaf o → AgreeObjects pairs o o
leaf_agrees pairs (objects.Block tag values) h = absurd h
leaf_agrees pairs (objects.Bytes bytes) h = refl
leaf_agrees pairs (objects.Double bits) h = refl
leaf_agrees pairs (objects.Doubles all) h = refl
leaf_agrees pairs (objects.I32 z) h = refl
leaf_agrees pairs (objects.I64 z) h = refl
leaf_agrees pairs (objects.Native z) h = refl

new_leaf : (g : List Obj) (met : List ℕ) (c k : ℕ) (o : Obj) → length met ≡ c → AreDistinct met → IsNew met k → slice_get g k ≡ Some o → IsLeaf o → Walked g met c (vals.Ref k)
new_leaf g met c k o count distinct new at_k h = record {
  tree = node (leaf o) none;
  news = k ∷ [];
  is_tree = (h, sym (leaf_fields o), tt);
  back = (tt, tt);
  many = add-zero (made_by (leaf o)) ∙ made_by_leaf o h;
  distinct = AreDistinct-push met k distinct new;
  objects = (IsSomeAnd-at (slice_get g k) o (λ a. AgreeObjects (numbered (met ++ k ∷ [])) a o) at_k (leaf_agrees (numbered (met ++ k ∷ [])) o h), tt);
  value = first_number met [] c k count;
}

new_block : (g : List Obj) (met : List ℕ) (c k tag : ℕ) (values : List Val) → length met ≡ c → slice_get g k ≡ Some (objects.Block tag values) → tag ≤ 243 → 0 < length values → WalkedAll g (met ++ k ∷ []) (c + 1) values → Walked g met c (vals.Ref k)
new_block g met c k tag values count at_k low some w =
    let assoc : (met ++ k ∷ []) ++ w.news ≡ met ++ k ∷ w.news = append_assoc met (k ∷ []) w.news in
    let numbers = numbered (met ++ k ∷ w.news) in
    let fields : AllZip (Agree numbers) values (roots w.forest (c + 1)) = subst (λ ks. AllZip (Agree (numbered ks)) values (roots w.forest (c + 1))) assoc w.shown in record {
      tree = node (block tag (length values)) w.forest;
      news = k ∷ w.news;
      is_tree = ((low, some), w.count, w.are_trees);
      back = (tt, w.back);
      many = omega (arith, w.many);
      distinct = subst AreDistinct assoc w.distinct;
      objects = (
        IsSomeAnd-at (slice_get g k) (objects.Block tag values) (λ a. AgreeObjects numbers a (objects.Block tag (roots w.forest (c + 1)))) at_k (refl, fields),
        subst (λ ks. AllZip (Shows g ks) w.news (all_objects w.forest (c + 1))) assoc w.objects,
      );
      value = first_number met w.news c k count;
    }

-- If each field of a new object can be walked, then a reference to the object can be walked, by
-- cases on the object.
new_object : (g : List Obj) (met : List ℕ) (c k n : ℕ) (o : Obj) → length met ≡ c → AreDistinct met → IsNew met k → slice_get g k ≡ Some o → IsObject n o → ((values : List Val) → All (IsValue n) values → WalkedAll g (met ++ k ∷ []) (c + 1) values) → Walked g met c (vals.Ref k)
new_object g met c k n (objects.Block tag values) count distinct new at_k h deeper = new_block g met c k tag values count at_k h.0 h.1 (deeper values h.2)
new_object g met c k n (objects.Bytes bytes) count distinct new at_k h deeper = new_leaf g met c k (objects.Bytes bytes) count distinct new at_k h
new_object g met c k n (objects.Double bits) count distinct new at_k h deeper = new_leaf g met c k (objects.Double bits) count distinct new at_k h
new_object g met c k n (objects.Doubles all) count distinct new at_k h deeper = new_leaf g met c k (objects.Doubles all) count distinct new at_k h
new_object g met c k n (objects.I32 z) count distinct new at_k h deeper = new_leaf g met c k (objects.I32 z) count distinct new at_k h
new_object g met c k n (objects.I64 z) count distinct new at_k h deeper = new_leaf g met c k (objects.I64 z) count distinct new at_k h
new_object g met c k n (objects.Native z) count distinct new at_k h deeper = new_leaf g met c k (objects.Native z) count distinct new at_k h

-- ---- the walk

-- If each new object can be walked, then each value can be walked, by cases on the value.
walked_value : (g : List Obj) (met unmet : List ℕ) (c fuel : ℕ) (v : Val) → IsReady g met unmet c fuel → IsValue (length g) v → ((k : ℕ) → k < length g → IsNew met k → Walked g met c (vals.Ref k)) → Walked g met c v
walked_value g met unmet c fuel (vals.Int z) ready h fresh = nothing_new g met c (vals.Int z) (integer z) ready.distinct (h, refl, tt) (tt, tt) refl refl refl
walked_value g met unmet c fuel (vals.Atom tag) ready h fresh = nothing_new g met c (vals.Atom tag) (atom tag) ready.distinct (h, refl, tt) (tt, tt) refl refl refl
walked_value g met unmet c fuel (vals.Ref k) ready h fresh = ⊎_elim
    (λ (m : IsMet met k). met_before g met c m.0 k ready.count ready.distinct m.1)
    (λ new. fresh k h new)
    (met_or_new met k)

-- Each value can be walked with the number `fuel` as the bound on unvisited objects.
abbrev Walks : List Obj → ℕ → Type 0
Walks g fuel = (met unmet : List ℕ) (c : ℕ) (v : Val) → IsReady g met unmet c fuel → IsValue (length g) v → Walked g met c v

-- An empty list of values can be walked.
walked_none : (g : List Obj) (met : List ℕ) (c : ℕ) → AreDistinct met → WalkedAll g met c []
walked_none g met c distinct = record {
  forest = none;
  news = [];
  are_trees = tt;
  count = refl;
  back = tt;
  many = refl;
  distinct = rw append-nil distinct;
  objects = tt;
  shown = tt;
}

walked_more : (g : List Obj) (met : List ℕ) (c : ℕ) (v : Val) (values : List Val) (w : Walked g met c v) → WalkedAll g (met ++ w.news) (c + made w.tree) values → WalkedAll g met c (v ∷ values)
walked_more g met c v values w rest =
    let assoc : (met ++ w.news) ++ rest.news ≡ met ++ (w.news ++ rest.news) = append_assoc met w.news rest.news in
    let among : AreAmong (numbered (met ++ w.news)) (numbered ((met ++ w.news) ++ rest.news)) = numbered-more (met ++ w.news) rest.news in
    let first_objects : AllZip (Shows g ((met ++ w.news) ++ rest.news)) w.news (objects_of w.tree c) =
    AllZip-weaker (Shows g (met ++ w.news)) (Shows g ((met ++ w.news) ++ rest.news)) w.news (objects_of w.tree c)
    (λ k b. IsSomeAnd-weaker (slice_get g k) (λ a. AgreeObjects (numbered (met ++ w.news)) a b) (λ a. AgreeObjects (numbered ((met ++ w.news) ++ rest.news)) a b) (λ a. AgreeObjects-more (numbered (met ++ w.news)) (numbered ((met ++ w.news) ++ rest.news)) a b among))
    w.objects in
    let first_value : Agree (numbered ((met ++ w.news) ++ rest.news)) v (root w.tree c) = Agree-more (numbered (met ++ w.news)) (numbered ((met ++ w.news) ++ rest.news)) v (root w.tree c) among w.value in record {
      forest = more w.tree rest.forest;
      news = w.news ++ rest.news;
      are_trees = (w.is_tree, rest.are_trees);
      count = ap suc rest.count;
      back = (w.back, rest.back);
      many = omega (arith, length-append w.news rest.news, w.many, rest.many);
      distinct = subst AreDistinct assoc rest.distinct;
      objects = subst (λ ks. AllZip (Shows g ks) (w.news ++ rest.news) (objects_of w.tree c ++ all_objects rest.forest (c + made w.tree))) assoc
          (AllZip-append (Shows g ((met ++ w.news) ++ rest.news)) w.news rest.news (objects_of w.tree c) (all_objects rest.forest (c + made w.tree)) first_objects rest.objects);
      shown = subst (λ ks. AllZip (Agree (numbered ks)) (v ∷ values) (root w.tree c ∷ roots rest.forest (c + made w.tree))) assoc (first_value, rest.shown);
    }

walk_all : (g : List Obj) (fuel : ℕ) → Walks g fuel → (met unmet : List ℕ) (c : ℕ) (values : List Val) → IsReady g met unmet c fuel → All (IsValue (length g)) values → WalkedAll g met c values
walk_all g fuel walks met unmet c [] ready h = walked_none g met c ready.distinct
walk_all g fuel walks met unmet c (v ∷ values) ready h =
    let w = walks met unmet c v ready (All-head (IsValue (length g)) v values h) in
    walked_more g met c v values w
    (walk_all g fuel walks (met ++ w.news) unmet (c + made w.tree) values
    (IsReady-more g met unmet w.news c fuel (made w.tree) ready w.distinct w.many) (All-tail (IsValue (length g)) v values h))

nothing_unmet : (g : List Obj) (met unmet : List ℕ) (c k : ℕ) → IsReady g met unmet c 0 → k < length g → IsNew met k → ⊥
nothing_unmet g met unmet c k ready less new =
    ⊎_elim (λ (m : IsMet met k). new m.0 m.1) (λ (later : Contains unmet k). omega (arith, later.1, ready.few)) (ready.covered k less)

walk : (g : List Obj) (fuel : ℕ) → IsGraph g → Walks g fuel
walk g zero is_graph met unmet c v ready h = walked_value g met unmet c 0 v ready h (λ k less new. absurd (nothing_unmet g met unmet c k ready less new))
walk g (suc fuel) is_graph met unmet c v ready h =
    walked_value g met unmet c (suc fuel) v ready h (λ k less new.
    let o = slice_get_there g k less in
    let r = IsReady-new g met unmet c fuel k ready less new in
    new_object g met c k (length g) o.0 ready.count ready.distinct new o.1
    (All-contains (IsObject (length g)) g o.0 is_graph (slice_get-Contains g k o.0 o.1))
    (λ values all. walk_all g fuel (walk g fuel is_graph) (met ++ k ∷ []) r.0 (c + 1) values r.1 all))

length-below : (n : ℕ) → length (below n) ≡ n
length-below zero = refl
length-below (suc n) = ap suc (length-below n)

start : (g : List Obj) → IsReady g [] (below (length g)) 0 (length g)
start g = record {
  count = refl;
  distinct = λ i j k a b. absurd (none-some k a);
  covered = λ k less. inr (Contains-below (length g) k less);
  few = omega (arith, length-below (length g));
}

-- ---- the tree of a value

IsPairing-numbered : (g h : List Obj) (ks : List ℕ) → AreDistinct ks → AllZip (Shows g ks) ks h → IsPairing g h (numbered ks)
IsPairing-numbered g h ks distinct shows = record {
  one_to_one = λ k l m n first second.
      let a = at_numbered ks k l first in
      let b = at_numbered ks m n second in
      (λ e. distinct l n m (rw e at a) b, λ e. same_Some k m (sym a ∙ ap (slice_get ks) e ∙ b));
  agree = λ k l among.
      let b = IsSomeAnd-some (slice_get h l) (λ b. Shows g ks k b) (AllZip-at (Shows g ks) ks h l k shows (at_numbered ks k l among)) in
      let a = IsSomeAnd-some (slice_get g k) (λ a. AgreeObjects (numbered ks) a b.0) b.2 in
      agree_at g h (numbered ks) k l a.0 b.0 a.1 b.1 a.2;
}

pub tree_exists : (g : List Obj) (v : Val) → IsGraph g → IsValue (length g) v → (tree : Tree) × IsTreeOf g v tree
tree_exists g v is_graph is_value =
    let w = walk g (length g) is_graph [] (below (length g)) 0 v (start g) is_value in (
      w.tree,
      record {
        is_tree = w.is_tree;
        refers_back = w.back;
        same = (numbered w.news, IsPairing-numbered g (objects_of w.tree 0) w.news w.distinct w.objects, w.value);
      },
    )

pub has_one_tree : (g : List Obj) (v : Val) → IsGraph g → IsValue (length g) v → HasOneTree g v
has_one_tree g v is_graph is_value =
    let t = tree_exists g v is_graph is_value in
    record { tree = t.0; is = t.1; only = λ other is_of. one_tree_only g v other t.0 is_of t.1 }

-- The objects of the tree of a value can be numbered.
pub numbering : (g : List Obj) (v : Val) (tree : Tree) → IsGraph g → IsValue (length g) v → IsTreeOf g v tree → (ks : List ℕ) × IsNumbering g v tree ks
numbering g v tree is_graph is_value is_of =
    let w = walk g (length g) is_graph [] (below (length g)) 0 v (start g) is_value in
    let of_walk : IsTreeOf g v w.tree = record {
      is_tree = w.is_tree;
      refers_back = w.back;
      same = (numbered w.news, IsPairing-numbered g (objects_of w.tree 0) w.news w.distinct w.objects, w.value);
    } in (
      w.news,
      subst (λ t. IsNumbering g v t w.news) (one_tree_only g v w.tree tree of_walk is_of)
          (record { distinct = w.distinct; objects = w.objects; value = w.value }),
    )
