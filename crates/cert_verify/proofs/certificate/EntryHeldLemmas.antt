-- The pairs of one object, of which there may be many.
use Rattle.std.proofs.Common.{ℕ, ◌<◌, ◌≤◌, ◌+◌, ◌-◌, ◌%◌, ◌≡◌, ◌∙◌, ◌⊎◌, ⊎_elim, inl, inr, Bool, true, false, cond, List, length, Some, refl, sym, ap, subst, arith}
use Rattle.std.specs.Prelude.{Contains, slice_get, IsTrue, ◌↔◌, ◌==◌, not}
use Rattle.std.proofs.lemmas.Bool.Decides.{Decides-eqb}
use Rattle.std.specs.BTreeMap.{is_at}
use Rattle.std.specs.BTreeSet.{BTreeSet, contains, Updates}
use Rattle.std.specs.Ordering.{is_eq}
use Rattle.std.proofs.lemmas.Bool.{false≢true, cases_lt}
use Rattle.std.proofs.lemmas.Cmp.{tied_itself, nat_cmp_total, on_total, then_total}
use Rattle.std.proofs.lemmas.Option.{same_Some, slice_get_within}
use Rattle.base_data.proofs.model.Options.{slice_get-Contains, slice_get_there, same_or_not}
use Rattle.base_data.specs.model.Graph.{IsValue, IsGraph}
use Rattle.base_data.specs.declared.model.value.Val.{Val}
use Rattle.base_data.specs.declared.model.value.Val.TheVariants as vals
use Rattle.base_data.specs.declared.model.value.Obj.{Obj}
use Rattle.marshal_heap.specs.heap.Heap.{word_of}
use Rattle.marshal_heap.proofs.heap.HeapReadLemmas.{word_of-inj}
use Rattle.base_data.proofs.model.Lists.{Contains-position as position_in}
use Rattle.types_spec.specs.types.Table.{Table, table_shapes}
use Rattle.types_spec.specs.types.Typing.{IsHeld, IsListed}
use Rattle.cert_format.specs.Increasing.{AreIncreasing}
use Rattle.check_heap.proofs.scan.ScanSetLemmas.{same_pair, cond_true, cond_kept}
use Rattle.cert_verify.specs.certificate.Testing.{IsStart, IsPassing, IsSame, pair_cmp, AreCrowded, is_in, IsFrequent, IsAmongAt, IsElsewhere, IsSettled, StandsAt}

-- The test `not (a == b)` decides whether two numbers differ.
pub differ : (a b : ℕ) → IsTrue (not (a == b)) ↔ (¬ (a ≡ b))
differ a b = by_test (a == b) refl where
  by_test : (t : Bool) → (a == b) ≡ t → IsTrue (not (a == b)) ↔ (¬ (a ≡ b))
  by_test true is = (λ yes' same. false≢true (sym (ap not is) ∙ yes'), λ differs. absurd (differs ((Decides-eqb a b).0 is)))
  by_test false is = (λ yes' same. false≢true (sym is ∙ (Decides-eqb a b).1 same), λ differs. ap not is)

-- ---- the set

at_itself : (k : ℕ × ℕ) → is_at (pair_cmp k) k ≡ true
at_itself k =
    ap is_eq (tied_itself {R = pair_cmp} (then_total (on_total (λ (p : ℕ × ℕ). p.0) nat_cmp_total) (on_total (λ (p : ℕ × ℕ). p.1) nat_cmp_total)) k)

here : (test other : Bool) → test ≡ true → cond test true other ≡ true
here true other is = refl
here false other is = absurd (false≢true is)

module _ (table : Table) (pairs : List (ℕ × ℕ)) where
  -- If a pair is not preceded by 16 pairs of its object, then the set needs no new element.
  pub frequent_same :
      (i o t : ℕ) (has : ℕ → ℕ → Type 0) → AreCrowded table pairs i has → slice_get pairs i ≡ Some (o, t)
      → ((s : ℕ) → ¬ (slice_get pairs (i - 16) ≡ Some (o, s))) → AreCrowded table pairs (i + 1) has
  frequent_same i o t has frequent at_i none = record {
    some = frequent.some;
    all = λ k p s u c less at_k at_next class. ⊎_elim
        (λ before. frequent.all k p s u c before at_k at_next class)
        (λ same. absurd (
        let o_is : o ≡ p = ap (λ (q : ℕ × ℕ). q.0) (same_Some (o, t) (p, u) (sym at_i ∙ (ap (slice_get pairs) (sym same) ∙ at_next))) in
        none s (ap (slice_get pairs) (back k i same) ∙ (at_k ∙ ap (λ (q : ℕ). Some (q, s)) (sym o_is)))))
        (last k i less);
  } where
    last : (k i : ℕ) → k + 16 < i + 1 → (k + 16 < i) ⊎ (k + 16 ≡ i)
    last k i less = ⊎_elim (λ same. inr same) (λ other. inl (omega (arith, less, other))) (same_or_not (k + 16) i)

    back : (k i : ℕ) → k + 16 ≡ i → i - 16 ≡ k
    back k i same = omega (arith, same)

  pub frequent_more :
      (i o t c : ℕ) (old new : BTreeSet (ℕ × ℕ)) → AreCrowded table pairs i (is_in old) → slice_get pairs i ≡ Some (o, t)
      → slice_get table.classes t ≡ Some c → Updates pair_cmp old new (o, c) true → AreCrowded table pairs (i + 1) (is_in new)
  frequent_more i o t c old new frequent at_i class updates = record {
    some = λ p d is. ⊎_elim
        (λ same.
        let key : ◌≡◌ {A = ℕ × ℕ} (o, c) (p, d) = same_pair (o, c) (p, d) same in
        subst (λ (q : ℕ × ℕ). (u : ℕ) × Contains pairs (q.0, u) × (slice_get table.classes u ≡ Some q.1)) key
        (t, slice_get-Contains pairs i (o, t) at_i, class))
        (λ before. frequent.some p d before)
        (cond_true (is_at (pair_cmp (o, c)) (p, d)) (contains pair_cmp old (p, d)) (sym (updates.0 (p, d)) ∙ is));
    all = λ k p s u d less at_k at_next own. ⊎_elim
        (λ before. updates.0 (p, d)
        ∙ cond_kept (is_at (pair_cmp (o, c)) (p, d)) (contains pair_cmp old (p, d)) (frequent.all k p s u d before at_k at_next own))
        (λ same.
        let pair : ◌≡◌ {A = ℕ × ℕ} (o, t) (p, u) = same_Some (o, t) (p, u) (sym at_i ∙ (ap (slice_get pairs) (sym same) ∙ at_next)) in
        let class_is : c ≡ d = same_Some c d (sym class ∙ (ap (λ (q : ℕ × ℕ). slice_get table.classes q.1) pair ∙ own)) in
        let key : ◌≡◌ {A = ℕ × ℕ} (o, c) (p, d) = ap (λ (q : ℕ × ℕ). (q.0, c)) pair ∙ ap (λ (e : ℕ). (p, e)) class_is in
        updates.0 (p, d)
        ∙ here (is_at (pair_cmp (o, c)) (p, d)) (contains pair_cmp old (p, d))
        (subst (λ (q : ℕ × ℕ). is_at (pair_cmp (o, c)) q ≡ true) key (at_itself (o, c))))
        (last k i less);
  } where
    last : (k i : ℕ) → k + 16 < i + 1 → (k + 16 < i) ⊎ (k + 16 ≡ i)
    last k i less = ⊎_elim (λ same. inr same) (λ other. inl (omega (arith, less, other))) (same_or_not (k + 16) i)

  -- ---- at an index

  pub stands_at :
      (graph : List Obj) (word o s t : ℕ) → Contains pairs (o, s) → o < length graph → word ≡ word_of graph (vals.Ref o) → IsSame table s t
      → StandsAt table graph pairs word t
  stands_at graph word o s t among inside named same =
      record { object = o; inside = inside; named = named; among = (s, among, same) }

  -- ---- among the pairs

  module _ (increasing : AreIncreasing pairs) where
    not_larger : (j k o p s t : ℕ) → j < k → slice_get pairs j ≡ Some (o, s) → slice_get pairs k ≡ Some (p, t) → o ≤ p
    not_larger j k o p s t less at_j at_k = ⊎_elim (λ smaller. omega (arith, smaller)) (λ same. let e = same.0 in omega (arith, e))
        (increasing j k (o, s) (p, t) less at_j at_k)

    -- If the first 16 pairs of an object were inspected, then the set decides for the object's
    -- other pairs.
    pub frequent_reports :
        (frequent : BTreeSet (ℕ × ℕ)) (object ty class start at : ℕ) (test : Bool) → IsFrequent table pairs frequent → slice_get table.classes ty ≡ Some class
        → IsStart pairs object start → IsPassing pairs object at (λ u. IsSame table u ty) → (at < length pairs → start + 16 ≤ at)
        → test ≡ contains pair_cmp frequent (object, class) → IsTrue test ↔ IsAmongAt table pairs object ty
    frequent_reports frequent object ty class start at test is_frequent class_is starts passing far test_is =
        (λ yes'. among (is_frequent.some object class (sym test_is ∙ yes')), λ there. test_is ∙ known there) where
          among : (t : ℕ) × Contains pairs (object, t) × (slice_get table.classes t ≡ Some class) → IsAmongAt table pairs object ty
          among (t, there, its) = (t, there, its ∙ sym class_is)

          behind : (u k : ℕ) → slice_get pairs k ≡ Some (object, u) → (table_shapes table).equal u ty → at ≤ k → is_in frequent object class
          behind u k at_k equal later =
              let inside = slice_get_within pairs k (object, u) at_k in
              let long : start + 16 ≤ at = far (omega (arith, inside, later)) in
              let j : ℕ = k - 16 in
              let again : j + 16 ≡ k = omega (arith, long, later) in
              let there = slice_get_there pairs (k - 16) (omega (arith, inside)) in
              let low : object ≤ there.0.0 = starts.others (k - 16) there.0 (omega (arith, long, later)) there.1 in
              let high : there.0.0 ≤ object = not_larger (k - 16) k there.0.0 object there.0.1 u (omega (arith, long, later)) there.1 at_k in
              let same : there.0.0 ≡ object = omega (arith, low, high) in
              is_frequent.all (k - 16) object there.0.1 u class (omega (arith, inside, again))
              (there.1 ∙ ap (λ (o : ℕ). Some (o, there.0.1)) same) (ap (slice_get pairs) again ∙ at_k) (equal ∙ class_is)

          known : IsAmongAt table pairs object ty → is_in frequent object class
          known (u, there, equal) =
              let k = position_in pairs (object, u) there in
              by_order k.0 k.1 (cases_lt k.0 at) where
                by_order : (k : ℕ) → slice_get pairs k ≡ Some (object, u) → (k < at) ⊎ (at ≤ k) → is_in frequent object class
                by_order k at_k (inl before) = absurd (passing.none k u before at_k equal)
                by_order k at_k (inr later) = behind u k at_k equal later

    -- ---- at an unequal type

    -- If the pair before pair `i` has the same object, then the type of the pair before decides.
    pub known_before :
        (i object ty before its class : ℕ) (test : Bool) → slice_get pairs i ≡ Some (object, ty) → 0 < i → slice_get pairs (i - 1) ≡ Some (object, before)
        → IsSettled table pairs i → slice_get table.classes before ≡ Some its → slice_get table.classes ty ≡ Some class → (IsTrue test ↔ (¬ (its ≡ class)))
        → IsTrue test ↔ IsElsewhere table pairs object ty
    known_before i object ty before its class test at_i some at_before settled its_is class_is reports = (
      λ yes'. (before, slice_get-Contains pairs (i - 1) (object, before) at_before, λ same. reports.0 yes' (same_Some its class (sym its_is ∙ (sym same ∙ class_is)))),
      λ elsewhere. reports.1 (λ same. settled (i - 1) object before ty (omega (arith, some)) at_before at_i (equal same)
          (elsewhere.0, elsewhere.1, λ is. elsewhere.2 (sym (equal same) ∙ is))),
    ) where
      equal : its ≡ class → (table_shapes table).equal before ty
      equal same = its_is ∙ (ap Some same ∙ sym class_is)

    -- If the pair before pair `i` has another object, then the object's pairs up to pair `i` are at
    -- equal types.
    pub passing_from :
        (i object ty : ℕ) → slice_get pairs i ≡ Some (object, ty) → ((s : ℕ) → 0 < i → ¬ (slice_get pairs (i - 1) ≡ Some (object, s)))
        → IsPassing pairs object (i + 1) (λ u. ¬ IsSame table ty u)
    passing_from i object ty at_i other = record {
      within = let inside = slice_get_within pairs i (object, ty) at_i in omega (arith, inside);
      none = λ k t less at_k differs. up_to k t less at_k differs;
      others = λ k pair more at_k. not_larger i k object pair.0 ty pair.1 (omega (arith, more)) at_i at_k;
    } where
      up_to : (k t : ℕ) → k < i + 1 → slice_get pairs k ≡ Some (object, t) → ¬ (¬ IsSame table ty t)
      up_to k t less at_k differs = ⊎_elim
          (λ same.
          differs (ap (λ (q : ℕ × ℕ). slice_get table.classes q.1)
          (same_Some (object, ty) (object, t) (sym at_i ∙ (ap (slice_get pairs) (sym same) ∙ at_k)))))
          (λ before. never k t (omega (arith, less, before)) at_k)
          (same_or_not k i) where
            never : (k t : ℕ) → k < i → slice_get pairs k ≡ Some (object, t) → ⊥
            never k t less at_k =
                let inside = slice_get_within pairs i (object, ty) at_i in
                let last = slice_get_there pairs (i - 1) (omega (arith, inside, less)) in
                let high : last.0.0 ≤ object = not_larger (i - 1) i last.0.0 object last.0.1 ty (omega (arith, less)) last.1 at_i in
                let low : object ≤ last.0.0 = ⊎_elim
                (λ same. let o_is : last.0.0 ≡ object = ap (λ (q : ℕ × ℕ). q.0) (same_Some last.0 (object, t) (sym last.1 ∙ (ap (slice_get pairs) (sym same) ∙ at_k))) in omega (arith, o_is))
                (λ different. not_larger k (i - 1) object last.0.0 t last.0.1 (omega (arith, less, different)) at_k last.1)
                (same_or_not k (i - 1)) in
                let is : last.0.0 ≡ object = omega (arith, low, high) in
                other last.0.1 (omega (arith, less)) (last.1 ∙ ap (λ (o : ℕ). Some (o, last.0.1)) is)

-- ---- the value of a word

module _ (table : Table) (graph : List Obj) (pairs : List (ℕ × ℕ)) (t : ℕ) (v : Val) where
  -- If the value is not an object and fits, then it is held.
  pub no_object_held : (word : ℕ) → word ≡ word_of graph v → (word % 8 ≡ 0 → ⊥) → (table_shapes table).fits graph v t → IsHeld (table_shapes table) graph pairs v t
  no_object_held word is odd fits = record { fits = fits; listed = listed v is } where
    listed : (w : Val) → word ≡ word_of graph w → IsListed (table_shapes table) pairs w t
    listed (vals.Int z) same = tt
    listed (vals.Atom tag) same = tt
    listed (vals.Ref o) same = absurd (odd (omega (arith, same)))

  -- Suppose the value is a reference and fits. Then it is held if and only if its object is among
  -- the pairs at an equal type.
  pub object_held :
      (word o : ℕ) (test : Bool) → IsGraph graph → IsValue (length graph) v → word ≡ word_of graph v → o < length graph → word ≡ word_of graph (vals.Ref o)
      → (table_shapes table).fits graph v t → (IsTrue test ↔ IsAmongAt table pairs o t) → IsTrue test ↔ IsHeld (table_shapes table) graph pairs v t
  object_held word o test graph' valid is inside named fits reports = (
    λ yes'. record { fits = fits; listed = subst (λ w. IsListed (table_shapes table) pairs w t) (sym same) (reports.0 yes') },
    λ held. reports.1 (subst (λ w. IsListed (table_shapes table) pairs w t) same held.listed),
  ) where
    same : v ≡ vals.Ref o
    same = word_of-inj graph v (vals.Ref o) graph' valid inside (sym is ∙ named)

  -- If the value is a reference that fits, and some pair has its object at an equal type, then the
  -- value is held.
  pub stands_held :
      (word : ℕ) → IsGraph graph → IsValue (length graph) v → word ≡ word_of graph v → (table_shapes table).fits graph v t
      → StandsAt table graph pairs word t → IsHeld (table_shapes table) graph pairs v t
  stands_held word graph' valid is fits at =
      (object_held word at.object true graph' valid is at.inside at.named fits (λ yes'. at.among, λ among. refl)).0 refl

  -- If the value does not fit, then it is not held.
  pub unfit_not_held : (fits : Bool) → (IsTrue fits ↔ (table_shapes table).fits graph v t) → fits ≡ false → ¬ IsHeld (table_shapes table) graph pairs v t
  unfit_not_held fits reports no' held = false≢true (sym no' ∙ reports.1 held.fits)
