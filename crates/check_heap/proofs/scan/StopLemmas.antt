-- The objects checked and the fields tested before a scan ends.
use Rattle.std.proofs.Common.{ℕ, suc, ◌+◌, ◌-◌, ◌<◌, ◌≤◌, ◌≡◌, ◌∙◌, ◌⊎◌, inl, inr, ⊎_elim, ◌++◌, Bool, true, false, List, [], ◌∷◌, length, Some, refl, sym, ap, ap₂, subst, arith, eqb-true}
use Rattle.std.specs.Prelude.{slice_get, Contains, IsTrue, nat_lt, ◌==◌, ◌&&◌, if◌then◌else◌, MatchBool}
use Rattle.std.proofs.lemmas.Bool.{ltb-true, eq-eqb, false≢true}
use Rattle.std.proofs.lemmas.List.{length-append}
use Rattle.std.proofs.lemmas.Option.{slice_get_within}
use Rattle.base_data.specs.declared.model.value.Val.{Val}
use Rattle.base_data.specs.declared.model.value.Val.TheVariants as vals
use Rattle.base_data.specs.declared.model.value.Obj.{Obj}
use Rattle.base_data.proofs.model.Lists.{Contains-position}
use Rattle.base_data.proofs.model.Numbers.{less_same_more}
use Rattle.types_spec.specs.types.Table.{Table, table_shapes}
use Rattle.marshal_heap.specs.heap.Heap.{field_at, key_of}
use Rattle.types_table.specs.type_table.Made.{IsLawful}
use Rattle.check_heap.specs.declared.scan.notes.Unmet.{Unmet}
use Rattle.check_heap.specs.declared.scan.taken_objects.TakenObjects.{TakenObjects}
use Rattle.check_heap.specs.declared.scan.taken_objects.ScanMismatch.TheVariants as unfits
use Rattle.check_heap.specs.scan.TakenObjects.{types_in, all_fields, seen_of, is_unfit_field, is_unfit_object, size_of, rest_of}
use Rattle.types_spec.proofs.types.TypeAskedLemmas.{need_typed}
use Rattle.check_heap.specs.scan.Scanned.{object_needs, object_typed, IsSeen, AreTaken, cost_of, left_of}
use Rattle.check_heap.specs.scan.Scan.{mark_of, IsMet, IsNoted, IsUnfit, IsUnmet, IsScanning}
use Rattle.check_heap.proofs.scan.ScanMarkLemmas.{never_noted}
use Rattle.check_heap.proofs.scan.IncreaseLemmas.{position_before, position_same}
use Rattle.check_heap.proofs.scan.ScanPositionLemmas.{slice_get-push_cases}
use Rattle.check_heap.proofs.scan.ScanNeedLemmas.{increase}
use Rattle.check_heap.proofs.scan.ScanLemmas.{scanned_within, cost_more}

-- ---- tests of numbers

pub unfit_other : (o f k i : ℕ) → (o ≡ k → f ≡ i → ⊥) → is_unfit_field (unfits.Field o f) k i ≡ false
unfit_other o f k i other = by_test (o == k) (f == i) refl refl where
  by_test : (b c : Bool) → (o == k) ≡ b → (f == i) ≡ c → (b && c) ≡ false
  by_test false c is also = refl
  by_test true false is also = refl
  by_test true true is also = absurd (other (eqb_is o k is) (eqb_is f i also)) where
    eqb_is : (m n : ℕ) → (m == n) ≡ true → m ≡ n
    eqb_is m n is = eqb-true m n is

pub unfit_this : (o f i : ℕ) → f ≡ i → is_unfit_field (unfits.Field o f) o i ≡ true
unfit_this o f i same = ap₂ (λ b c. b && c) (eq-eqb o o refl) (eq-eqb f i same)

-- If `o` is the last checked object, then `seen` is the index below which the fields of `o` were
-- tested.
last_seen : (taken : TakenObjects) (o : ℕ) → taken.objects ≡ o + 1 → seen_of taken o ≡ taken.seen
last_seen taken o objects = by_test (nat_lt (suc o) taken.objects) refl where
  by_test : (b : Bool) → nat_lt (suc o) taken.objects ≡ b → (if b then all_fields else taken.seen) ≡ taken.seen
  by_test true is = let less = ltb-true (suc o) taken.objects is in absurd (omega (arith, less, objects))
  by_test false is = refl

pub rest_within : (size seen : ℕ) → rest_of size seen ≤ size - seen
rest_within size seen = by_test (seen == all_fields) where
  by_test : (b : Bool) → (if b then 0 else size - seen) ≤ size - seen
  by_test true = omega arith
  by_test false = omega arith

-- ---- a required field that is not satisfied

-- The tested fields of the last object are all fields before the unsatisfied field. If the
-- unsatisfied field is a mismatch, the unsatisfied field was tested, too.
pub record SeesUntil (taken : TakenObjects) (o : ℕ) (unmet : Unmet) : Type 0 where
  pub objects : taken.objects ≡ o + 1
  pub none : (p : ℕ) → IsTrue (is_unfit_object taken.unfit p) → ⊥
  pub others : (k i : ℕ) → k < o → is_unfit_field taken.unfit k i ≡ false
  pub seen :
      (i : ℕ) → i < taken.seen
      → ((i < unmet.field) × (is_unfit_field taken.unfit o i ≡ false)) ⊎ ((i ≡ unmet.field) × ((is_unfit_field taken.unfit o i ≡ true) × IsTrue unmet.unfit))

pub field_sees :
    (types : List ℕ) (o : ℕ) (unmet : Unmet) → IsTrue unmet.unfit
    → SeesUntil (record { types = types; objects = o + 1; seen = unmet.field + 1; unfit = unfits.Field o unmet.field }) o unmet
field_sees types o unmet unfit = record {
  objects = refl;
  none = λ p found. false≢true found;
  others = λ k i less. unfit_other o unmet.field k i (λ same number. omega (arith, same, less));
  seen = λ i less. ⊎_elim
      (λ before. inl (before, unfit_other o unmet.field o i (λ same number. omega (arith, number, before))))
      (λ others. ⊎_elim
      (λ same. inr (same, (unfit_this o unmet.field i (sym same), unfit)))
      (λ after. absurd (omega (arith, less, after)))
      others)
      (less_same_more i unmet.field);
}

pub nothing_sees : (types : List ℕ) (o : ℕ) (unmet : Unmet) → SeesUntil (record { types = types; objects = o + 1; seen = unmet.field; unfit = unfits.Nothing }) o unmet
nothing_sees types o unmet = record {
  objects = refl;
  none = λ p found. false≢true found;
  others = λ k i less. refl;
  seen = λ i less. inl (less, refl);
}

-- If the tested required fields of the last object are among the object's fields, then the steps
-- are within the bound.
pub until_few :
    (graph : List Obj) (taken : TakenObjects) (types : List ℕ) (o t before steps tested : ℕ) → taken.objects ≡ o + 1 → types_in taken ≡ types ++ t ∷ [] → length types ≡ o
    → before ≤ cost_of graph types → steps ≤ before + (1 + tested) → tested ≤ taken.seen → tested ≤ size_of graph o
    → steps + left_of graph taken ≤ cost_of graph (types_in taken)
until_few graph taken types o t before steps tested objects are many few more seen inside =
    let cost = ap (cost_of graph) are ∙ cost_more graph types t in
    let own = ap (size_of graph) many in
    let last : taken.objects - 1 ≡ o = omega (arith, objects) in
    let left = ap (λ n. rest_of (size_of graph n) taken.seen) last in
    let rest = rest_within (size_of graph o) taken.seen in
    omega (arith, cost, own, left, rest, few, more, seen, inside)

module _ (table : Table) (graph : List Obj) (lawful : IsLawful table) (marks : List ℕ) (taken : TakenObjects) where
  -- The checked objects are marked with their types. An object that was found to be a mismatch is
  -- marked with a type that it does not match.
  record AreMarked : Type 0 where
    types : (p t : ℕ) → slice_get (types_in taken) p ≡ Some t → mark_of graph marks p ≡ suc t
    unfit : (p : ℕ) → IsTrue (is_unfit_object taken.unfit p) → (t : ℕ) × (mark_of graph marks p ≡ suc t) × ¬ (table_shapes table).fits graph (vals.Ref p) t

  met_seen :
      (o i : ℕ) (v : Val) (a : ℕ) → AreMarked → is_unfit_field taken.unfit o i ≡ false → IsMet table graph marks v a → IsSeen table graph taken o i v a
  met_seen o i (vals.Int z) a marked none met =
      subst (λ b. MatchBool b (¬ (table_shapes table).fits graph (vals.Int z) a) ((table_shapes table).fits graph (vals.Int z) a)) (sym none) met
  met_seen o i (vals.Atom tag) a marked none met =
      subst (λ b. MatchBool b (¬ (table_shapes table).fits graph (vals.Atom tag) a) ((table_shapes table).fits graph (vals.Atom tag) a)) (sym none) met
  met_seen o i (vals.Ref p) a marked none met = record {
    taken_at = λ u at_p.
        let own = marked.types p u at_p in
        let is = met.1 in
        let same : u ≡ met.0 = omega (arith, own, is) in
        ap (slice_get table.classes) same ∙ met.2;
    unfit = λ found fits.
        let w = marked.unfit p found in
        let is = met.1 in
        let own = w.1 in
        let same : met.0 ≡ w.0 = omega (arith, own, is) in
        w.2 (lawful.lawful.fits graph (vals.Ref p) a w.0 (inl tt) (sym met.2 ∙ ap (slice_get table.classes) same) fits);
  }

  -- If nothing is noted and a value is satisfied, then the scan has tested the value's field.
  need_seen :
      (o i : ℕ) (v : Val) (a : ℕ) → AreMarked → is_unfit_field taken.unfit o i ≡ false → IsMet table graph marks v a ⊎ IsNoted table [] v a
      → IsSeen table graph taken o i v a
  need_seen o i v a marked none = ⊎_elim (λ met. met_seen o i v a marked none met) (λ noted. absurd (never_noted table graph v a noted))

  unfit_seen : (o i : ℕ) (v : Val) (a : ℕ) → is_unfit_field taken.unfit o i ≡ true → IsUnfit table graph v a → IsSeen table graph taken o i v a
  unfit_seen o i (vals.Int z) a is unfit =
      subst (λ b. MatchBool b (¬ (table_shapes table).fits graph (vals.Int z) a) ((table_shapes table).fits graph (vals.Int z) a)) (sym is) unfit
  unfit_seen o i (vals.Atom tag) a is unfit =
      subst (λ b. MatchBool b (¬ (table_shapes table).fits graph (vals.Atom tag) a) ((table_shapes table).fits graph (vals.Atom tag) a)) (sym is) unfit
  unfit_seen o i (vals.Ref p) a is unfit = absurd unfit

  -- If all required fields of an object are satisfied, then the scan has tested each of the fields.
  wholly_seen :
      (types : List ℕ) (n steps o t i a : ℕ) → AreMarked → IsScanning table graph marks [] types n steps → slice_get types o ≡ Some t
      → is_unfit_field taken.unfit o i ≡ false → Contains (object_needs table graph o t) (i, a) → IsSeen table graph taken o i (field_at graph o i) a
  wholly_seen types n steps o t i a marked scanning at_o none needed =
      let needs = object_typed table graph o t in
      let is = need_typed table graph (vals.Ref o) t i a needed in
      let j = Contains-position needs (i, a) is.0 in
      need_seen o i (field_at graph o i) a marked none ((scanning.taken o t at_o).met j.0 i a (slice_get_within needs j.0 (i, a) j.1) j.1 is.1)

  -- ---- the scan ended before an object

  pub before_taken :
      (n steps : ℕ) → n ≤ length graph → IsScanning table graph marks [] (types_in taken) n steps
      → ((p : ℕ) → IsTrue (is_unfit_object taken.unfit p) → (t : ℕ) × (mark_of graph marks p ≡ suc t) × ¬ (table_shapes table).fits graph (vals.Ref p) t)
      → ((o i : ℕ) → is_unfit_field taken.unfit o i ≡ false) → AreTaken table graph taken
  before_taken n steps inside scanning unfit none =
      let marked : AreMarked = record { types = λ p t at_p. (scanning.taken p t at_p).marked; unfit = unfit } in
      record {
        many = let many = scanning.many in omega (arith, many, inside);
        within = λ o t at_o. scanned_within table graph marks [] (types_in taken) n steps o t scanning at_o;
        fits = λ o t at_o. (scanning.taken o t at_o).fits;
        seen = λ o t i a at_o less needed. wholly_seen (types_in taken) n steps o t i a marked scanning at_o (none o i) needed;
      }

  -- ---- the scan ended at a required field of an object

  pub until_taken :
      (types : List ℕ) (o t steps : ℕ) (unmet : Unmet) → o < length graph → types_in taken ≡ types ++ t ∷ [] → IsScanning table graph marks [] types o steps
      → mark_of graph marks o ≡ suc t → (table_shapes table).fits graph (vals.Ref o) t → IsUnmet table graph marks [] o t unmet → SeesUntil taken o unmet
      → AreTaken table graph taken
  until_taken types o t steps unmet inside are scanning mark fits stop sees = record {
    many =
        let many = scanning.many in
        let long = ap length are ∙ length-append types (t ∷ []) in
        omega (arith, many, long, inside);
    within = λ k u at_k. ⊎_elim
        (λ before. scanned_within table graph marks [] types o steps k u scanning before)
        (λ last. let small = scanning.valid.small (key_of graph o) in omega (arith, last.1, mark, small))
        (cases k u at_k);
    fits = λ k u at_k. ⊎_elim
        (λ before. (scanning.taken k u before).fits)
        (λ last. subst (λ n. (table_shapes table).fits graph (vals.Ref n) u) (sym last.0) (subst (λ w. (table_shapes table).fits graph (vals.Ref o) w) last.1 fits))
        (cases k u at_k);
    seen = λ k u i a at_k less needed. ⊎_elim
        (λ before.
        let short = slice_get_within types k u before in
        let many = scanning.many in
        wholly_seen types o steps k u i a marked scanning before (sees.others k i (omega (arith, short, many))) needed)
        (λ last.
        subst (λ n. IsSeen table graph taken n i (field_at graph n i) a) (sym last.0)
        (last_field i a (subst (λ n. i < n) (last_seen taken o sees.objects) (subst (λ n. i < seen_of taken n) last.0 less))
        (subst (λ n. Contains (object_needs table graph n t) (i, a)) last.0 (subst (λ w. Contains (object_needs table graph k w) (i, a)) (sym last.1) needed))))
        (cases k u at_k);
  } where
    cases : (k u : ℕ) → slice_get (types_in taken) k ≡ Some u → (slice_get types k ≡ Some u) ⊎ ((k ≡ o) × (t ≡ u))
    cases k u at_k = ⊎_elim
        (λ before. inl before)
        (λ last. inr (last.0 ∙ scanning.many, last.1))
        (slice_get-push_cases types t k u (subst (λ ts. slice_get ts k ≡ Some u) are at_k))

    marked : AreMarked
    marked = record {
      types = λ p u at_p. ⊎_elim
          (λ before. (scanning.taken p u before).marked)
          (λ last. subst (λ n. mark_of graph marks n ≡ suc u) (sym last.0) (mark ∙ ap suc last.1))
          (cases p u at_p);
      unfit = λ p found. absurd (sees.none p found);
    }

    last_field : (i a : ℕ) → i < taken.seen → Contains (object_needs table graph o t) (i, a) → IsSeen table graph taken o i (field_at graph o i) a
    last_field i a less needed =
        let needs = object_typed table graph o t in
        let is = need_typed table graph (vals.Ref o) t i a needed in
        let j = Contains-position needs (i, a) is.0 in
        ⊎_elim
        (λ before.
        let position = position_before needs (increase table graph o t) j.0 unmet.position i unmet.field a stop.type j.1 stop.at before.0 in
        need_seen o i (field_at graph o i) a marked before.1 (stop.met j.0 i a position j.1 is.1))
        (λ this.
        let type : a ≡ stop.type = position_same needs (increase table graph o t) j.0 unmet.position i unmet.field a stop.type j.1 stop.at this.0 in
        unfit_seen o i (field_at graph o i) a this.1.0
        (subst (λ n. IsUnfit table graph (field_at graph o n) a) (sym this.0) (subst (λ w. IsUnfit table graph (field_at graph o unmet.field) w) (sym type) (stop.unfit this.1.1))))
        (sees.seen i less)
