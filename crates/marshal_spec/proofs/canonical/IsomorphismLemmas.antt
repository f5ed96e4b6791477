-- Isomorphism of values is an equivalence.
use Rattle.std.proofs.Common.{ℕ, ◌≡◌, ◌<◌, ◌==◌, ◌∙◌, List, [], ◌∷◌, length, cond, Some, refl, sym, ap, subst, eqb-true, eq-eqb}
use Rattle.std.specs.Prelude.{slice_get, map, flat_map, Contains, IsSomeAnd}
use Rattle.std.proofs.lemmas.List.Elements.{All-contains}
use Rattle.std.proofs.lemmas.Option.{same_Some}
use Rattle.base_data.proofs.model.Options.{IsSomeAnd-some, IsSomeAnd-at, slice_get-Contains, Contains-map, Contains-flat_map, slice_get_there, map-Contains, flat_map-Contains}
use Rattle.base_data.specs.declared.model.value.Val.{Val}
use Rattle.base_data.specs.declared.model.value.Val.TheVariants as vals
use Rattle.base_data.specs.declared.model.value.Obj.{Obj}
use Rattle.base_data.specs.declared.model.value.Obj.TheVariants as objects
use Rattle.base_data.specs.model.Graph.{IsValue, IsObject, IsGraph}
use Rattle.marshal_spec.specs.format.Isomorphism.{Agree, AgreeObjects, IsPairing, Isomorphism}
use Rattle.marshal_spec.proofs.canonical.CanonicalListLemmas.{Contains-cond, cond-Contains, below, Contains-below, below-Contains, AllZip-weaker, AllZip-swapped, AllZip-composed, AllZip-same}

-- ---- more pairs

abbrev pub AreAmong : List (ℕ × ℕ) → List (ℕ × ℕ) → Type 0
AreAmong pairs more = (k l : ℕ) → Contains pairs (k, l) → Contains more (k, l)

-- If two values agree under some pairs, then the two values agree under more pairs.
pub Agree-more : (pairs more : List (ℕ × ℕ)) (v w : Val) → AreAmong pairs more → Agree pairs v w → Agree more v w
Agree-more pairs more (vals.Int x) (vals.Int y) among agree = agree
Agree-more pairs more (vals.Atom x) (vals.Atom y) among agree = agree
Agree-more pairs more (vals.Ref k) (vals.Ref l) among agree = among k l agree
Agree-more pairs more v w among agree = absurd agree

pub AgreeObjects-more : (pairs more : List (ℕ × ℕ)) (a b : Obj) → AreAmong pairs more → AgreeObjects pairs a b → AgreeObjects more a b
AgreeObjects-more pairs more (objects.Block tag values) (objects.Block tag' values') among agree =
    (agree.0, AllZip-weaker (Agree pairs) (Agree more) values values' (λ v w. Agree-more pairs more v w among) agree.1)
AgreeObjects-more pairs more (objects.Block tag values) b among agree = absurd agree
AgreeObjects-more pairs more (objects.Bytes bytes) b among agree = agree
AgreeObjects-more pairs more (objects.Double bits) b among agree = agree
AgreeObjects-more pairs more (objects.Doubles all) b among agree = agree
AgreeObjects-more pairs more (objects.I32 z) b among agree = agree
AgreeObjects-more pairs more (objects.I64 z) b among agree = agree
AgreeObjects-more pairs more (objects.Native z) b among agree = agree

-- ---- the objects of a pair

pub record ObjectsOfPair (g h : List Obj) (pairs : List (ℕ × ℕ)) (k l : ℕ) : Type 0 where
  pub left : Obj
  pub right : Obj
  pub left_is : slice_get g k ≡ Some left
  pub right_is : slice_get h l ≡ Some right
  pub agree : AgreeObjects pairs left right

pub objects_of_pair : (g h : List Obj) (pairs : List (ℕ × ℕ)) (k l : ℕ) → IsPairing g h pairs → Contains pairs (k, l) → ObjectsOfPair g h pairs k l
objects_of_pair g h pairs k l pairing among =
    let a = IsSomeAnd-some (slice_get g k) (λ a. IsSomeAnd (slice_get h l) (λ b. AgreeObjects pairs a b)) (pairing.agree k l among) in
    let b = IsSomeAnd-some (slice_get h l) (λ b. AgreeObjects pairs a.0 b) a.2 in
    record { left = a.0; right = b.0; left_is = a.1; right_is = b.1; agree = b.2 }

pub agree_at : (g h : List Obj) (pairs : List (ℕ × ℕ)) (k l : ℕ) (a b : Obj) → slice_get g k ≡ Some a → slice_get h l ≡ Some b → AgreeObjects pairs a b → IsSomeAnd (slice_get g k) (λ a. IsSomeAnd (slice_get h l) (λ b. AgreeObjects pairs a b))
agree_at g h pairs k l a b at_k at_l agree =
    IsSomeAnd-at (slice_get g k) a (λ a. IsSomeAnd (slice_get h l) (λ b. AgreeObjects pairs a b)) at_k
    (IsSomeAnd-at (slice_get h l) b (λ b. AgreeObjects pairs a b) at_l agree)

-- ---- symmetry

abbrev turned : ℕ × ℕ → ℕ × ℕ
turned p = (p.1, p.0)

turned_has : (pairs : List (ℕ × ℕ)) (k l : ℕ) → Contains pairs (k, l) → Contains (map turned pairs) (l, k)
turned_has pairs k l among = Contains-map turned pairs (k, l) among

has_turned : (pairs : List (ℕ × ℕ)) (k l : ℕ) → Contains (map turned pairs) (l, k) → Contains pairs (k, l)
has_turned pairs k l among =
    let r = map-Contains turned pairs (l, k) among in
    let same : ◌≡◌ {A = ℕ × ℕ} r.0 (k, l) = ap turned r.2 in
    subst (λ p. Contains pairs p) same r.1

Agree-turned : (pairs : List (ℕ × ℕ)) (v w : Val) → Agree pairs v w → Agree (map turned pairs) w v
Agree-turned pairs (vals.Int x) (vals.Int y) agree = sym agree
Agree-turned pairs (vals.Atom x) (vals.Atom y) agree = sym agree
Agree-turned pairs (vals.Ref k) (vals.Ref l) agree = turned_has pairs k l agree
Agree-turned pairs v w agree = absurd agree

AgreeObjects-turned : (pairs : List (ℕ × ℕ)) (a b : Obj) → AgreeObjects pairs a b → AgreeObjects (map turned pairs) b a
AgreeObjects-turned pairs (objects.Block tag values) (objects.Block tag' values') agree =
    (sym agree.0, AllZip-swapped (Agree pairs) (Agree (map turned pairs)) values values' (Agree-turned pairs) agree.1)
AgreeObjects-turned pairs (objects.Block tag values) b agree = absurd agree
AgreeObjects-turned pairs (objects.Bytes bytes) b agree = subst (λ o. AgreeObjects (map turned pairs) o (objects.Bytes bytes)) agree refl
AgreeObjects-turned pairs (objects.Double bits) b agree = subst (λ o. AgreeObjects (map turned pairs) o (objects.Double bits)) agree refl
AgreeObjects-turned pairs (objects.Doubles all) b agree = subst (λ o. AgreeObjects (map turned pairs) o (objects.Doubles all)) agree refl
AgreeObjects-turned pairs (objects.I32 z) b agree = subst (λ o. AgreeObjects (map turned pairs) o (objects.I32 z)) agree refl
AgreeObjects-turned pairs (objects.I64 z) b agree = subst (λ o. AgreeObjects (map turned pairs) o (objects.I64 z)) agree refl
AgreeObjects-turned pairs (objects.Native z) b agree = subst (λ o. AgreeObjects (map turned pairs) o (objects.Native z)) agree refl

IsPairing-turned : (g h : List Obj) (pairs : List (ℕ × ℕ)) → IsPairing g h pairs → IsPairing h g (map turned pairs)
IsPairing-turned g h pairs pairing = record {
  one_to_one = λ k l m n first second.
      let both = pairing.one_to_one l k n m (has_turned pairs l k first) (has_turned pairs n m second) in (both.1, both.0);
  agree = λ k l among.
      let o = objects_of_pair g h pairs l k pairing (has_turned pairs l k among) in
      agree_at h g (map turned pairs) k l o.right o.left o.right_is o.left_is (AgreeObjects-turned pairs o.left o.right o.agree);
}

pub same_symmetric : (g h : List Obj) (v w : Val) → Isomorphism g v h w → Isomorphism h w g v
same_symmetric g h v w (pairs, pairing, agree) = (map turned pairs, IsPairing-turned g h pairs pairing, Agree-turned pairs v w agree)

-- ---- transitivity

abbrev joined_pair : ℕ × ℕ → ℕ × ℕ → List (ℕ × ℕ)
joined_pair p q = cond (p.1 == q.0) ((p.0, q.1) ∷ []) []

-- The composition of two pairings relates `p.0` to `q.1` if `p.1` equals `q.0`.
abbrev joined : List (ℕ × ℕ) → List (ℕ × ℕ) → List (ℕ × ℕ)
joined ps qs = flat_map (λ p. flat_map (joined_pair p) qs) ps

joined_has : (ps qs : List (ℕ × ℕ)) (k l m : ℕ) → Contains ps (k, l) → Contains qs (l, m) → Contains (joined ps qs) (k, m)
joined_has ps qs k l m first second =
    Contains-flat_map (λ p. flat_map (joined_pair p) qs) ps (k, l) (k, m) first
    (Contains-flat_map (joined_pair (k, l)) qs (l, m) (k, m) second (cond-Contains (l == l) (k, m) (eq-eqb l l refl)))

record Joint (ps qs : List (ℕ × ℕ)) (k m : ℕ) : Type 0 where
  by : ℕ
  first : Contains ps (k, by)
  second : Contains qs (by, m)

has_joined : (ps qs : List (ℕ × ℕ)) (k m : ℕ) → Contains (joined ps qs) (k, m) → Joint ps qs k m
has_joined ps qs k m among =
    let p = flat_map-Contains (λ p. flat_map (joined_pair p) qs) ps (k, m) among in
    let q = flat_map-Contains (joined_pair p.0) qs (k, m) p.2 in
    let both = Contains-cond (p.0.1 == q.0.0) (p.0.0, q.0.1) (k, m) q.2 in
    let at_k : p.0.0 ≡ k = ap (λ (r : ℕ × ℕ). r.0) both.1 in
    let at_m : q.0.1 ≡ m = ap (λ (r : ℕ × ℕ). r.1) both.1 in
    let meets : q.0.0 ≡ p.0.1 = sym (eqb-true p.0.1 q.0.0 both.0) in record {
      by = p.0.1;
      first = subst (λ n. Contains ps (n, p.0.1)) at_k p.1;
      second = subst (λ n. Contains qs (n, m)) meets (subst (λ n. Contains qs (q.0.0, n)) at_m q.1);
    }

Agree-joined : (ps qs : List (ℕ × ℕ)) (u v w : Val) → Agree ps u v → Agree qs v w → Agree (joined ps qs) u w
Agree-joined ps qs (vals.Int x) (vals.Int y) (vals.Int z) first second = first ∙ second
Agree-joined ps qs (vals.Atom x) (vals.Atom y) (vals.Atom z) first second = first ∙ second
Agree-joined ps qs (vals.Ref k) (vals.Ref l) (vals.Ref m) first second = joined_has ps qs k l m first second
Agree-joined ps qs (vals.Int x) (vals.Int y) w first second = absurd second
Agree-joined ps qs (vals.Atom x) (vals.Atom y) w first second = absurd second
Agree-joined ps qs (vals.Ref k) (vals.Ref l) w first second = absurd second
Agree-joined ps qs u v w first second = absurd first

AgreeObjects-joined : (ps qs : List (ℕ × ℕ)) (a b c : Obj) → AgreeObjects ps a b → AgreeObjects qs b c → AgreeObjects (joined ps qs) a c
AgreeObjects-joined ps qs (objects.Block tag values) (objects.Block tag' values') (objects.Block tag'' values'') first second =
    (first.0 ∙ second.0, AllZip-composed (Agree ps) (Agree qs) (Agree (joined ps qs)) values values' values'' (Agree-joined ps qs) first.1 second.1)
AgreeObjects-joined ps qs (objects.Block tag values) (objects.Block tag' values') c first second = absurd second
AgreeObjects-joined ps qs (objects.Block tag values) b c first second = absurd first
AgreeObjects-joined ps qs (objects.Bytes bytes) b c first second = subst (λ o. AgreeObjects qs o c) (sym first) second
AgreeObjects-joined ps qs (objects.Double bits) b c first second = subst (λ o. AgreeObjects qs o c) (sym first) second
AgreeObjects-joined ps qs (objects.Doubles all) b c first second = subst (λ o. AgreeObjects qs o c) (sym first) second
AgreeObjects-joined ps qs (objects.I32 z) b c first second = subst (λ o. AgreeObjects qs o c) (sym first) second
AgreeObjects-joined ps qs (objects.I64 z) b c first second = subst (λ o. AgreeObjects qs o c) (sym first) second
AgreeObjects-joined ps qs (objects.Native z) b c first second = subst (λ o. AgreeObjects qs o c) (sym first) second

IsPairing-joined : (g h i : List Obj) (ps qs : List (ℕ × ℕ)) → IsPairing g h ps → IsPairing h i qs → IsPairing g i (joined ps qs)
IsPairing-joined g h i ps qs first second = record {
  one_to_one = λ k l m n one other.
      let a = has_joined ps qs k l one in
      let b = has_joined ps qs m n other in
      let left = first.one_to_one k a.by m b.by a.first b.first in
      let right = second.one_to_one a.by l b.by n a.second b.second in
      (λ e. right.0 (left.0 e), λ e. left.1 (right.1 e));
  agree = λ k m among.
      let j = has_joined ps qs k m among in
      let a = objects_of_pair g h ps k j.by first j.first in
      let b = objects_of_pair h i qs j.by m second j.second in
      let same : b.left ≡ a.right = same_Some b.left a.right (sym b.left_is ∙ a.right_is) in
      agree_at g i (joined ps qs) k m a.left b.right a.left_is b.right_is
      (AgreeObjects-joined ps qs a.left a.right b.right a.agree (subst (λ o. AgreeObjects qs o b.right) same b.agree));
}

pub same_transitive : (g h i : List Obj) (u v w : Val) → Isomorphism g u h v → Isomorphism h v i w → Isomorphism g u i w
same_transitive g h i u v w (ps, first, like) (qs, second, agree) = (joined ps qs, IsPairing-joined g h i ps qs first second, Agree-joined ps qs u v w like agree)

-- ---- reflexivity

abbrev twice : ℕ → ℕ × ℕ
twice k = (k, k)

abbrev each_with_itself : ℕ → List (ℕ × ℕ)
each_with_itself n = map twice (below n)

itself : (n k l : ℕ) → Contains (each_with_itself n) (k, l) → (k < n) × (k ≡ l)
itself n k l among =
    let r = map-Contains twice (below n) (k, l) among in
    let at_k : r.0 ≡ k = ap (λ (p : ℕ × ℕ). p.0) r.2 in
    let at_l : r.0 ≡ l = ap (λ (p : ℕ × ℕ). p.1) r.2 in
    (subst (λ m. m < n) at_k (below-Contains n r.0 r.1), sym at_k ∙ at_l)

Agree-itself : (n : ℕ) (v : Val) → IsValue n v → Agree (each_with_itself n) v v
Agree-itself n (vals.Int z) h = refl
Agree-itself n (vals.Atom tag) h = refl
Agree-itself n (vals.Ref k) h = Contains-map twice (below n) k (Contains-below n k h)

AgreeObjects-itself : (n : ℕ) (o : Obj) → IsObject n o → AgreeObjects (each_with_itself n) o o
AgreeObjects-itself n (objects.Block tag values) h =
    (refl, AllZip-same (Agree (each_with_itself n)) values (λ v among. Agree-itself n v (All-contains (IsValue n) values v h.2 among)))
AgreeObjects-itself n (objects.Bytes bytes) h = refl
AgreeObjects-itself n (objects.Double bits) h = refl
AgreeObjects-itself n (objects.Doubles all) h = refl
AgreeObjects-itself n (objects.I32 z) h = refl
AgreeObjects-itself n (objects.I64 z) h = refl
AgreeObjects-itself n (objects.Native z) h = refl

agree_with_itself : (g : List Obj) → IsGraph g → (k l : ℕ) → (k < length g) × (k ≡ l) → IsSomeAnd (slice_get g k) (λ a. IsSomeAnd (slice_get g l) (λ b. AgreeObjects (each_with_itself (length g)) a b))
agree_with_itself g is_graph k l (there, same) =
    let found = slice_get_there g k there in
    subst (λ m. IsSomeAnd (slice_get g k) (λ a. IsSomeAnd (slice_get g m) (λ b. AgreeObjects (each_with_itself (length g)) a b))) same
    (agree_at g g (each_with_itself (length g)) k k found.0 found.0 found.1 found.1
    (AgreeObjects-itself (length g) found.0 (All-contains (IsObject (length g)) g found.0 is_graph (slice_get-Contains g k found.0 found.1))))

pub same_reflexive : (g : List Obj) (v : Val) → IsGraph g → IsValue (length g) v → Isomorphism g v g v
same_reflexive g v is_graph is_value =
    let n = length g in (
      each_with_itself n,
      record {
        one_to_one = λ k l m p first second.
            let e : k ≡ l = (itself n k l first).1 in
            let f : m ≡ p = (itself n m p second).1 in
            (λ s. sym e ∙ s ∙ f, λ s. e ∙ s ∙ sym f);
        agree = λ k l among. agree_with_itself g is_graph k l (itself n k l among);
      },
      Agree-itself n v is_value,
    )
