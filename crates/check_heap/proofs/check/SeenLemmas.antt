-- The required fields of a visit that a scan has tested.
use Rattle.std.proofs.Common.{ℕ, ◌+◌, ◌-◌, ◌%◌, ◌^◌, ◌<◌, ◌≤◌, ◌≡◌, ◌≢◌, ◌∙◌, inl, ⊎_elim, Bool, true, false, List, [], length, Some, refl, sym, ap, subst, arith, eqb-true}
use Rattle.std.specs.Prelude.{slice_get, slice_index, IsTrue, not, ◌==◌, ◌↔◌, if◌then◌else◌, MatchBool}
use Rattle.std.proofs.lemmas.Bool.{false≢true, cases_lt}
use Rattle.std.proofs.lemmas.Option.{none-some}
use Rattle.base_data.specs.declared.model.value.Val.{Val}
use Rattle.base_data.specs.declared.model.value.Val.TheVariants as vals
use Rattle.base_data.specs.declared.model.value.Obj.{Obj}
use Rattle.types_spec.specs.types.Table.{Table, table_shapes}
use Rattle.marshal_heap.specs.heap.Heap.{field_at, word_of}
use Rattle.types_table.specs.type_table.Made.{IsLawful}
use Rattle.check_heap.specs.declared.scan.taken_objects.TakenObjects.{TakenObjects}
use Rattle.check_heap.specs.scan.TakenObjects.{types_in, all_fields, seen_of, is_unfit_field, rest_of}
use Rattle.check_heap.specs.scan.Scanned.{IsSeen, IsSeenObject, AreTaken}
use Rattle.check_heap.proofs.scan.ScanPositionLemmas.{read_at}
use Rattle.check_heap.specs.declared.check.visits.Visit.{Visit}
use Rattle.check_heap.specs.check.Search.{AreSeen, is_taken}
use Rattle.check_heap.proofs.check.SpentLemmas.{taken_at}

-- ---- steps

-- If one more field is reached, then the step bound grows by one, unless a scan has tested the
-- field.
pub reach_more :
    (reached i seen start steps more : ℕ) → reached ≤ i → steps ≤ start + (reached - seen) → more ≤ steps + 1 → (i < seen → more ≡ steps)
    → more ≤ start + (i + 1 - seen)
reach_more reached i seen start steps more before few one known = ⊎_elim
    (λ less. let same = known less in omega (arith, before, few, less, same))
    (λ late. omega (arith, before, few, one, late))
    (cases_lt i seen)

-- If all fields that were reached are fields of the object, then the steps are within the bound.
pub few_rest :
    (size reached seen start steps : ℕ) → reached ≤ size → reached < 2 ^ 64 → steps ≤ start + (reached - seen) → steps ≤ start + rest_of size seen
few_rest size reached seen start steps inside small few = by_test (seen == all_fields) refl where
  by_test : (test : Bool) → (seen == all_fields) ≡ test → steps ≤ start + (if test then 0 else size - seen)
  by_test true is = let all = eqb-true seen all_fields is in omega (arith, small, few, all)
  by_test false is = omega (arith, inside, few)

pub need_few :
    (size reached i seen start steps more : ℕ) → reached ≤ i → i < size → i + 1 < 2 ^ 64 → steps ≤ start + (reached - seen) → more ≤ steps + 1
    → (i < seen → more ≡ steps) → more ≤ start + rest_of size seen
need_few size reached i seen start steps more before inside small few one known =
    few_rest size (i + 1) seen start more (omega (arith, inside)) small (reach_more reached i seen start steps more before few one known)

module _ (table : Table) (graph : List Obj) (taken : TakenObjects) where
  -- ---- required fields

  pub value_seen :
      (o i : ℕ) (v : Val) (a word : ℕ) (unfit : Bool) → word ≡ word_of graph v → word % 8 ≢ 0 → unfit ≡ is_unfit_field taken.unfit o i
      → IsSeen table graph taken o i v a → IsTrue (not unfit) ↔ (table_shapes table).fits graph v a
  value_seen o i v a word unfit is odd same seen = by_value v is seen where
    by_test : (w : Val) (test : Bool) → MatchBool test (¬ (table_shapes table).fits graph w a) ((table_shapes table).fits graph w a) → IsTrue (not test) ↔ (table_shapes table).fits graph w a
    by_test w true none = (λ no. absurd (false≢true no), λ fits. absurd (none fits))
    by_test w false fits = (λ yes. fits, λ also. refl)

    by_value : (w : Val) → word ≡ word_of graph w → IsSeen table graph taken o i w a → IsTrue (not unfit) ↔ (table_shapes table).fits graph w a
    by_value (vals.Int z) named known = by_test (vals.Int z) unfit
        (subst (λ b. MatchBool b (¬ (table_shapes table).fits graph (vals.Int z) a) ((table_shapes table).fits graph (vals.Int z) a)) (sym same) known)
    by_value (vals.Atom tag) named known = by_test (vals.Atom tag) unfit
        (subst (λ b. MatchBool b (¬ (table_shapes table).fits graph (vals.Atom tag) a) ((table_shapes table).fits graph (vals.Atom tag) a)) (sym same) known)
    by_value (vals.Ref p) named known = absurd (odd (omega (arith, named)))

  module _ (lawful : IsLawful table) where
    pub object_taken : (o u a : ℕ) → AreTaken table graph taken → slice_get (types_in taken) o ≡ Some u → IsSeenObject table graph taken o a → (table_shapes table).fits graph (vals.Ref o) a
    object_taken o u a are at_o seen = lawful.lawful.fits graph (vals.Ref o) u a (inl tt) (seen.taken_at u at_o) (are.fits o u at_o)

    -- If a field was tested at a type, then it was tested at each equal type.
    seen_equal : (o i : ℕ) (v : Val) (a b : ℕ) → (table_shapes table).equal a b → IsSeen table graph taken o i v a → IsSeen table graph taken o i v b
    seen_equal o i v a b equal = by_value v where
      by_test :
          (w : Val) (test : Bool) → MatchBool test (¬ (table_shapes table).fits graph w a) ((table_shapes table).fits graph w a)
          → MatchBool test (¬ (table_shapes table).fits graph w b) ((table_shapes table).fits graph w b)
      by_test w true none = λ fits. none (lawful.lawful.fits graph w b a (inl tt) (sym equal) fits)
      by_test w false fits = lawful.lawful.fits graph w a b (inl tt) equal fits

      by_value : (w : Val) → IsSeen table graph taken o i w a → IsSeen table graph taken o i w b
      by_value (vals.Int z) known = by_test (vals.Int z) (is_unfit_field taken.unfit o i) known
      by_value (vals.Atom tag) known = by_test (vals.Atom tag) (is_unfit_field taken.unfit o i) known
      by_value (vals.Ref p) known = record {
        taken_at = λ u at_p. known.taken_at u at_p ∙ equal;
        unfit = λ found fits. known.unfit found (lawful.lawful.fits graph (vals.Ref p) b a (inl tt) (sym equal) fits);
      }

    -- If a scan has checked the visit's object at an equal type, then the scan has tested the
    -- visit's required fields below `seen`.
    pub visit_seen : (v : Visit) → AreTaken table graph taken → v.ty < length table.classes → is_taken table taken v ≡ true → AreSeen table graph taken v (seen_of taken v.object)
    visit_seen v are typed is i a less needed =
        let at_o = taken_at table graph taken v is in
        let within = are.within v.object at_o.0 at_o.1 in
        let equal : (table_shapes table).equal v.ty at_o.0 =
        read_at table.classes v.ty (slice_index table.classes v.ty) typed refl
        ∙ ap Some (sym at_o.2) ∙ sym (read_at table.classes at_o.0 (slice_index table.classes at_o.0) (omega (arith, within, lawful.classed)) refl) in
        let own = lawful.lawful.needs graph (vals.Ref v.object) v.ty at_o.0 i a (inl tt) equal needed in
        seen_equal v.object i (field_at graph v.object i) own.0 a (sym own.2) (are.seen v.object at_o.0 i own.0 at_o.1 less own.1)

  -- Case: the scan has checked no object.
  pub none_taken : types_in taken ≡ [] → AreTaken table graph taken
  none_taken none = record {
    many = let long = ap length none in omega (arith, long);
    within = λ o t at_o. absurd (nowhere o t at_o);
    fits = λ o t at_o. absurd (nowhere o t at_o);
    seen = λ o t i a at_o less needed. absurd (nowhere o t at_o);
  } where
    nowhere : (o t : ℕ) → slice_get (types_in taken) o ≡ Some t → ⊥
    nowhere o t at_o = none-some t (sym (ap (λ ts. slice_get ts o) none) ∙ at_o)
