-- Objects at second classes, settled one after another.
use Rattle.std.proofs.Common.{ℕ, ◌+◌, ◌%◌, ◌<◌, ◌≤◌, ◌≡◌, ◌≢◌, ◌∙◌, ⊎_elim, ◌++◌, true, false, List, [], ◌∷◌, length, take, Some, refl, sym, ap, subst, arith}
use Rattle.std.specs.Prelude.{slice_get, sum_by, Contains, IsTrue}
use Rattle.std.proofs.lemmas.Bool.{false≢true}
use Rattle.std.proofs.lemmas.List.{length-append, append_assoc, append-nil, take-append-le, take_more}
use Rattle.std.proofs.lemmas.List.Sums.{sum_by_push}
use Rattle.std.proofs.lemmas.Option.{same_Some, slice_get_within, get_or_from_slice_get}
use Rattle.base_data.proofs.model.Options.{same_or_not}
use Rattle.base_data.specs.declared.model.value.Val.{Val}
use Rattle.base_data.specs.declared.model.value.Val.TheVariants as vals
use Rattle.base_data.specs.declared.model.value.Obj.{Obj}
use Rattle.base_data.proofs.model.Lists.{Contains-position}
use Rattle.types_spec.specs.types.Fitting.{numbered_from}
use Rattle.types_spec.specs.types.Table.{Table, table_shapes, is_asked_in}
use Rattle.marshal_heap.specs.heap.Heap.{field_at, word_of}
use Rattle.check_heap.specs.declared.scan.second_types.SecondTypes.{SecondTypes}
use Rattle.check_heap.specs.scan.Paths.{HasPath}
use Rattle.check_heap.specs.scan.Seconds.{noted_in, AreSeconds, IsNoting}
use Rattle.check_heap.specs.scan.TakenObjects.{size_of}
use Rattle.check_heap.specs.scan.Scanned.{IsFoundIn, pairs_with, IsNotedOver, object_typed}
use Rattle.check_heap.proofs.scan.ScanPositionLemmas.{slice_get-append_below, contains_left, contains_right, contains_push, contains_cases}
use Rattle.types_spec.proofs.types.TypeAskedLemmas.{need_typed}
use Rattle.check_heap.proofs.scan.ScanLemmas.{pair_there}
use Rattle.check_heap.proofs.scan.ScanMarkLemmas.{noting_listed}
use Rattle.check_heap.specs.check.Settled.{AreOver, IsSettledAt, IsSettling, Extends, FindsValue, FindsNeeds, Settles, IsCounting}

-- ---- tests

pub even_word : (graph : List Obj) (word o : ℕ) → word % 8 ≢ 0 → word ≡ word_of graph (vals.Ref o) → ⊥
even_word graph word o odd is = odd (omega (arith, is))

-- ---- lists that grow

pub extends_none : (xs : List (ℕ × ℕ)) → Extends xs xs
extends_none xs = record { added = []; is = sym (append-nil xs) }

pub extends_twice : (xs ys zs : List (ℕ × ℕ)) → Extends xs ys → Extends ys zs → Extends xs zs
extends_twice xs ys zs one other = record {
  added = one.added ++ other.added;
  is = other.is ∙ ap (λ all. all ++ other.added) one.is ∙ append_assoc xs one.added other.added;
}

noting_extends : (table : Table) (old new : List (ℕ × ℕ)) (o t : ℕ) → IsNoting table old new o t → Extends old new
noting_extends table old new o t noting = ⊎_elim
    (λ same. subst (Extends old) (sym same.1) (extends_none old))
    (λ pushed. record { added = (o, t) ∷ []; is = pushed.1 })
    noting

extended : (old new : List (ℕ × ℕ)) (p : ℕ × ℕ) → Extends old new → Contains old p → Contains new p
extended old new p more among = subst (λ xs. Contains xs p) (sym more.is) (contains_left old more.added p among)

module _ (table : Table) (graph : List Obj) (types : List ℕ) where
  pub found_extended :
      (old new : SecondTypes) (v : Val) (t : ℕ) → Extends (noted_in old) (noted_in new)
      → IsFoundIn table graph (pairs_with types old) v t → IsFoundIn table graph (pairs_with types new) v t
  found_extended old new (vals.Int z) t more found = found
  found_extended old new (vals.Atom tag) t more found = found
  found_extended old new (vals.Ref o) t more found = (found.0, still (o, found.0) found.1, found.2) where
    still : (p : ℕ × ℕ) → Contains (pairs_with types old) p → Contains (pairs_with types new) p
    still p among = ⊎_elim
        (λ one. contains_left (numbered_from 0 types) (noted_in new) p one)
        (λ other. contains_right (numbered_from 0 types) (noted_in new) p (extended (noted_in old) (noted_in new) p more other))
        (contains_cases (numbered_from 0 types) (noted_in old) p among)

  -- If one more pair with a path is recorded, then the types stay correct except for the recorded
  -- pairs.
  pub over_more :
      (old new : SecondTypes) (o t : ℕ) → AreOver table graph types old → AreSeconds table new → IsNoting table (noted_in old) (noted_in new) o t
      → IsNotedOver table graph types o t → HasPath table graph (vals.Ref 0) o t → AreOver table graph types new
  over_more old new o t over valid noting own path =
      let more = noting_extends table (noted_in old) (noted_in new) o t noting in
      record {
        scanned = record {
          many = over.scanned.many;
          within = over.scanned.within;
          root = over.scanned.root;
          fits = over.scanned.fits;
          found = λ p u i a at_p needed. found_extended old new (field_at graph p i) a more (over.scanned.found p u i a at_p needed);
          valid = valid;
          noted = λ p u among. one_more (λ q w. IsNotedOver table graph types q w) over.scanned.noted own p u among;
        };
        paths = λ p u among. one_more (λ q w. HasPath table graph (vals.Ref 0) q w) over.paths path p u among;
      } where
        one_more : (P : ℕ → ℕ → Type 0) → ((p u : ℕ) → Contains (noted_in old) (p, u) → P p u) → P o t → (p u : ℕ) → Contains (noted_in new) (p, u) → P p u
        one_more P before last p u among = ⊎_elim
            (λ same. before p u (subst (λ xs. Contains xs (p, u)) same.1 among))
            (λ pushed. ⊎_elim
            (λ there. before p u there)
            (λ is. subst (λ (q : ℕ × ℕ). P q.0 q.1) is last)
            (contains_push (noted_in old) (o, t) (p, u) (subst (λ xs. Contains xs (p, u)) pushed.1 among)))
            noting

  -- Case: the value is a reference to an object that has an equal type.
  pub finds_first :
      (seconds : SecondTypes) (p u t : ℕ) → AreOver table graph types seconds → slice_get types p ≡ Some u → (table_shapes table).equal u t
      → FindsValue table graph types seconds seconds (vals.Ref p) t
  finds_first seconds p u t over at_p same = record {
    over = over;
    extends = extends_none (noted_in seconds);
    found = (u, contains_left (numbered_from 0 types) (noted_in seconds) (p, u) (pair_there types p u at_p), same);
  }

  pub finds_noted :
      (old new : SecondTypes) (p t : ℕ) → AreOver table graph types old → AreSeconds table new → IsNoting table (noted_in old) (noted_in new) p t
      → IsNotedOver table graph types p t → HasPath table graph (vals.Ref 0) p t → FindsValue table graph types old new (vals.Ref p) t
  finds_noted old new p t over valid noting own path =
      let listed = noting_listed table graph (noted_in old) (noted_in new) p t noting in
      record {
        over = over_more old new p t over valid noting own path;
        extends = noting_extends table (noted_in old) (noted_in new) p t noting;
        found = (listed.0, contains_right (numbered_from 0 types) (noted_in new) (p, listed.0) listed.1, listed.2);
      }

  -- Case: the value is no object.
  pub finds_value :
      (seconds : SecondTypes) (v : Val) (t : ℕ) → AreOver table graph types seconds → ((o : ℕ) → v ≢ vals.Ref o) → (table_shapes table).fits graph v t
      → FindsValue table graph types seconds seconds v t
  finds_value seconds v t over other fits = record { over = over; extends = extends_none (noted_in seconds); found = by_value v other fits } where
    by_value : (w : Val) → ((o : ℕ) → w ≢ vals.Ref o) → (table_shapes table).fits graph w t → IsFoundIn table graph (pairs_with types seconds) w t
    by_value (vals.Int z) other fits = fits
    by_value (vals.Atom tag) other fits = fits
    by_value (vals.Ref o) other fits = absurd (other o refl)

  -- ---- required fields

  -- If the next field is found or not required, then the required fields up to the next field are
  -- found.
  pub finds_more :
      (old now new : SecondTypes) (o t r i a : ℕ) → FindsNeeds table graph types old now o t r → AreOver table graph types new
      → Extends (noted_in now) (noted_in new)
      → (IsTrue (is_asked_in table a) → IsFoundIn table graph (pairs_with types new) (field_at graph o i) a)
      → slice_get (object_typed table graph o t) r ≡ Some (i, a) → FindsNeeds table graph types old new o t (r + 1)
  finds_more old now new o t r i a before over extends own at_r = record {
    over = over;
    extends = extends_twice (noted_in old) (noted_in now) (noted_in new) before.extends extends;
    found = λ j x b less at_j asked. ⊎_elim
        (λ same.
        let pair = same_Some (i, a) (x, b) (sym at_r ∙ ap (slice_get (object_typed table graph o t)) (sym same) ∙ at_j) in
        subst (λ (need : ℕ × ℕ). IsTrue (is_asked_in table need.1) → IsFoundIn table graph (pairs_with types new) (field_at graph o need.0) need.1) pair own asked)
        (λ apart. found_extended now new (field_at graph o x) b extends (before.found j x b (omega (arith, apart, less)) at_j asked))
        (same_or_not j r);
  }

  -- Case: the field's type is unconstrained.
  pub finds_wildcard :
      (old now : SecondTypes) (o t r i a : ℕ) → FindsNeeds table graph types old now o t r → is_asked_in table a ≡ false
      → slice_get (object_typed table graph o t) r ≡ Some (i, a) → FindsNeeds table graph types old now o t (r + 1)
  finds_wildcard old now o t r i a before wildcard at_r =
      finds_more old now now o t r i a before before.over (extends_none (noted_in now))
      (λ asked. absurd (false≢true (sym wildcard ∙ asked))) at_r

  -- ---- pairs

  pub settled_extended :
      (old new : SecondTypes) (o t : ℕ) → Extends (noted_in old) (noted_in new) → IsSettledAt table graph types old o t → IsSettledAt table graph types new o t
  settled_extended old new o t more settled = record {
    fits = settled.fits;
    found = λ i a needed. found_extended old new (field_at graph o i) a more (settled.found i a needed);
    here = settled.here;
    first = settled.first;
  }

  pub settling_more :
      (old new : SecondTypes) (n o t : ℕ) → IsSettling table graph types old n → slice_get (noted_in old) n ≡ Some (o, t) → (table_shapes table).fits graph (vals.Ref o) t
      → FindsNeeds table graph types old new o t (length (object_typed table graph o t)) → (¬ (table_shapes table).mutable graph o t)
      → ((u : ℕ) → slice_get types o ≡ Some u → ¬ (table_shapes table).mutable graph o u) → Settles table graph types old new n
  settling_more old new n o t settling at_n fits finds here first = record {
    settling = record {
      over = finds.over;
      within =
          let inside = slice_get_within (noted_in old) n (o, t) at_n in
          let long = ap length finds.extends.is ∙ length-append (noted_in old) finds.extends.added in
          omega (arith, inside, long);
      settled = λ k p u less at_k. ⊎_elim
          (λ same.
          let pair = same_Some (o, t) (p, u) (sym at_n ∙ ap (slice_get (noted_in old)) (sym same) ∙ back k (p, u) less at_k) in
          subst (λ (q : ℕ × ℕ). IsSettledAt table graph types new q.0 q.1) pair own)
          (λ apart. settled_extended old new p u finds.extends (settling.settled k p u (omega (arith, apart, less)) (back k (p, u) less at_k)))
          (same_or_not k n);
    };
    extends = finds.extends;
  } where
    back : (k : ℕ) (p : ℕ × ℕ) → k < n + 1 → slice_get (noted_in new) k ≡ Some p → slice_get (noted_in old) k ≡ Some p
    back k p less at_k =
        let inside = slice_get_within (noted_in old) n (o, t) at_n in
        slice_get-append_below (noted_in old) finds.extends.added k p (omega (arith, inside, less)) (subst (λ xs. slice_get xs k ≡ Some p) finds.extends.is at_k)

    own : IsSettledAt table graph types new o t
    own = record {
      fits = fits;
      found = λ i a needed.
          let is = need_typed table graph (vals.Ref o) t i a needed in
          let j = Contains-position (object_typed table graph o t) (i, a) is.0 in
          finds.found j.0 i a (slice_get_within (object_typed table graph o t) j.0 (i, a) j.1) j.1 is.1;
      here = here;
      first = first;
    }

  pub settling_none : (seconds : SecondTypes) → AreOver table graph types seconds → IsSettling table graph types seconds 0
  settling_none seconds over = record { over = over; within = omega arith; settled = λ k o t less. absurd (omega (arith, less)) }

  pub counting_none : (seconds : SecondTypes) (start : ℕ) → AreOver table graph types seconds → IsCounting table graph types seconds 0 start start
  counting_none seconds start over = record { settling = settling_none seconds over; few = omega arith }

  pub counting_more :
      (old new : SecondTypes) (n start steps more : ℕ) (pair : ℕ × ℕ) → IsCounting table graph types old n start steps → slice_get (noted_in old) n ≡ Some pair
      → Settles table graph types old new n → more ≤ steps + (1 + size_of graph pair.0) → IsCounting table graph types new (n + 1) start more
  counting_more old new n start steps more pair counting at_n settles few = record {
    settling = settles.settling;
    few =
        let inside = slice_get_within (noted_in old) n pair at_n in
        let cost : ℕ × ℕ → ℕ = λ entry. 1 + size_of graph entry.0 in
        let kept = ap (λ xs. take (n + 1) xs) settles.extends.is ∙ take-append-le (n + 1) (noted_in old) settles.extends.added (omega (arith, inside)) in
        let last = take_more (noted_in old) n (0, 0) inside ∙ ap (λ p. take n (noted_in old) ++ p ∷ []) (get_or_from_slice_get (noted_in old) n pair (0, 0) at_n) in
        let sum = ap (sum_by cost) (kept ∙ last) ∙ sum_by_push cost (take n (noted_in old)) pair in
        let before = counting.few in
        omega (arith, sum, before, few);
  }
