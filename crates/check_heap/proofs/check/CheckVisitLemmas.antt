-- Visits whose required fields are tested one after another.
use Rattle.std.proofs.Common.{ℕ, suc, ◌+◌, ◌<◌, ◌≡◌, ◌∙◌, inl, inr, ⊎_elim, ◌++◌, List, [], ◌∷◌, length, get_or, true, false, Some, None, refl, sym, ap, subst, arith}
use Rattle.std.specs.Prelude.{slice_get, All, IsSomeAnd, IsTrue}
use Rattle.std.proofs.lemmas.List.{append-nil, append_assoc, length-append}
use Rattle.std.proofs.lemmas.Option.{same_Some, slice_get_within, slice_get-get_or}
use Rattle.base_data.proofs.model.Options.{slice_get_there, slice_get-Contains}
use Rattle.base_data.specs.model.Graph.{IsValue}
use Rattle.base_data.specs.declared.model.value.Val.{Val}
use Rattle.base_data.specs.declared.model.value.Val.TheVariants as vals
use Rattle.base_data.specs.declared.model.value.Obj.{Obj}
use Rattle.base_data.proofs.model.Lists.{slice_get-append_left, Contains-position}
use Rattle.types_spec.specs.declared.types.fault.Fault.TheVariants.{Mismatch}
use Rattle.types_spec.specs.types.Fault.{IsBefore, field_of, IsMismatch}
use Rattle.types_spec.specs.types.LeastFault.{IsLeastFault}
use Rattle.types_spec.specs.types.LawfulShapes.{AreLawful, Everything}
use Rattle.types_spec.specs.types.SearchedPaths.{Entry, IsEntered, IsSearched}
use Rattle.types_spec.specs.types.Table.{Table, table_shapes, typed_fields, is_asked_in}
use Rattle.types_spec.proofs.types.TypeAskedLemmas.{need_typed}
use Rattle.std.proofs.lemmas.Bool.{false≢true}
use Rattle.types_table.specs.type_table.Made.{IsLawful}
use Rattle.types_theory.proofs.typing.TypingPathLemmas.{paths_compare}
use Rattle.types_theory.proofs.typing.SearchedLemmas.{before_transitive, never_before_itself}
use Rattle.types_theory.proofs.typing.TypingLeastLemmas.{mismatch_is_least}
use Rattle.check_heap.specs.declared.check.visits.Visit.{Visit}
use Rattle.check_heap.specs.declared.check.search.RequiredField.{RequiredField}
use Rattle.check_heap.specs.check.Conflict.{IsWithin}
use Rattle.check_heap.specs.check.KnownVisits.{AreOrdered, AreKnown}
use Rattle.check_heap.specs.check.Explored.{entry_fields, root_of, AreExplored, IsExplored}
use Rattle.check_heap.specs.check.Visits.{IsMet}
use Rattle.check_heap.specs.check.Search.{EntersValue, TestsNeed, IsMismatchAt, GrowsVisits, IsTesting, TestsVisit, visit_fields}
use Rattle.check_heap.proofs.scan.ScanPositionLemmas.{slice_get-append_below, slice_get-push_cases}
use Rattle.check_heap.proofs.check.ExploredLemmas.{need_before, need_leads, entries_before, explored_same, explored_more, explored_next}

-- ---- growth

pub grows_not : (all : List Visit) → GrowsVisits all all
grows_not all = record { added = []; extends = sym (append-nil all) }

pub grows_twice : (old middle new : List Visit) → GrowsVisits old middle → GrowsVisits middle new → GrowsVisits old new
grows_twice old middle new first second = record {
  added = first.added ++ second.added;
  extends = second.extends ∙ ap (λ prefix. prefix ++ second.added) first.extends ∙ append_assoc old first.added second.added;
}

pub at_still : (old new : List Visit) (k : ℕ) (v : Visit) → GrowsVisits old new → slice_get old k ≡ Some v → slice_get new k ≡ Some v
at_still old new k v grows at_k =
    subst (λ all. slice_get all k ≡ Some v) (sym grows.extends) (slice_get-append_left old grows.added k v at_k)

pub root_still : (old new : List Visit) → 0 < length old → GrowsVisits old new → root_of new ≡ root_of old
root_still [] new some grows = absurd (omega arith)
root_still (v ∷ old) new some grows = ap root_of grows.extends

module _ (table : Table) (graph : List Obj) where
  pub record ReportsOf (all : List Visit) (known : List (Entry ℕ)) (k : ℕ) (v : Visit) : Type 0 where
    pub entry : Entry ℕ
    pub at : slice_get known k ≡ Some entry
    pub object : entry.object ≡ v.object
    pub type : entry.type ≡ v.ty

  pub reports_of : (all : List Visit) (known : List (Entry ℕ)) (k : ℕ) (v : Visit) → AreKnown all known → slice_get all k ≡ Some v → ReportsOf all known k v
  reports_of all known k v are at_k =
      let inside = slice_get_within all k v at_k in
      let e = slice_get_there known k (omega (arith, inside, are.many)) in
      record { entry = e.0; at = e.1; object = are.objects k v e.0 at_k e.1; type = are.types k v e.0 at_k e.1 }

  -- ---- properties of a visit

  pub visit_within : (all : List Visit) (n r k : ℕ) (v : Visit) → IsExplored table graph all n r → slice_get all k ≡ Some v → IsWithin table graph v
  visit_within all n r k v x at_k =
      let t = reports_of all x.known k v x.are_known at_k in (
        subst (λ o. o < length graph) t.object (x.explored.objects k t.entry t.at),
        subst (λ i. i < length table.nodes) t.type (x.explored.types k t.entry t.at),
      )

  pub visit_fits : (all : List Visit) (n r k : ℕ) (v : Visit) → IsExplored table graph all n r → slice_get all k ≡ Some v → (table_shapes table).fits graph (vals.Ref v.object) v.ty
  visit_fits all n r k v x at_k =
      let t = reports_of all x.known k v x.are_known at_k in
      subst (λ i. (table_shapes table).fits graph (vals.Ref v.object) i) t.type
      (subst (λ o. (table_shapes table).fits graph (vals.Ref o) t.entry.type) t.object (x.explored.fit k t.entry t.at))

  -- No object is visited twice at one class.
  pub visits_apart :
      (all : List Visit) (n r j k : ℕ) (v w : Visit) → IsExplored table graph all n r → slice_get all j ≡ Some v → slice_get all k ≡ Some w
      → v.object ≡ w.object → slice_get table.classes v.ty ≡ slice_get table.classes w.ty → j ≡ k
  visits_apart all n r j k v w x at_j at_k object class =
      let t = reports_of all x.known j v x.are_known at_j in
      let u = reports_of all x.known k w x.are_known at_k in
      x.explored.apart j k t.entry u.entry t.at u.at (t.object ∙ object ∙ sym u.object)
      (ap (slice_get table.classes) t.type ∙ class ∙ ap (slice_get table.classes) (sym u.type))

  pub all_within : (all : List Visit) (n r : ℕ) → IsExplored table graph all n r → All (IsWithin table graph) all
  all_within all n r x = λ k d inside. visit_within all n r k (get_or all k d) x (slice_get-get_or all k d inside)

  pub types_within : (all : List Visit) (n r : ℕ) → IsLawful table → IsExplored table graph all n r → All (λ (v : Visit). v.ty < length table.classes) all
  types_within all n r lawful x = λ k d inside.
      let within = visit_within all n r k (get_or all k d) x (slice_get-get_or all k d inside) in
      omega (arith, within.1, lawful.classed)

  -- ---- one more required field

  -- The record `need` is required field `r` of visit `n`.
  pub record IsNeedOf (all : List Visit) (n r : ℕ) (need : RequiredField) : Type 0 where
    pub visit : Visit
    pub at : slice_get all n ≡ Some visit
    pub parent : need.parent ≡ n
    pub object : need.object ≡ visit.object
    pub needed : slice_get (visit_fields table graph visit) r ≡ Some (need.step, need.ty)
    pub asked : IsTrue (is_asked_in table need.ty)

  record Known (all : List Visit) (n r : ℕ) (need : RequiredField) (x : IsExplored table graph all n r) : Type 0 where
    entry : Entry ℕ
    at : slice_get x.known n ≡ Some entry
    object : entry.object ≡ need.object
    needed : slice_get (entry_fields table graph entry) r ≡ Some (need.step, need.ty)
    asked : IsTrue (is_asked_in table need.ty)

  known_need : (all : List Visit) (n r : ℕ) (need : RequiredField) (x : IsExplored table graph all n r) → IsNeedOf all n r need → Known all n r need x
  known_need all n r need x is =
      let t = reports_of all x.known n is.visit x.are_known is.at in
      record {
        entry = t.entry;
        at = t.at;
        object = t.object ∙ sym is.object;
        needed = subst (λ i. slice_get (typed_fields table graph (vals.Ref t.entry.object) i) r ≡ Some (need.step, need.ty)) (sym t.type)
            (subst (λ o. slice_get (typed_fields table graph (vals.Ref o) is.visit.ty) r ≡ Some (need.step, need.ty)) (sym t.object) is.needed);
        asked = is.asked;
      }

  same_explored :
      (all : List Visit) (n r : ℕ) (need : RequiredField) (w : Val) (x : IsExplored table graph all n r) (t : Known all n r need x)
      → field_of graph (vals.Ref need.object) need.step ≡ Some w → (table_shapes table).fits graph w need.ty
      → IsEntered (table_shapes table) x.known w need.ty (t.entry.path ++ need.step ∷ []) → IsExplored table graph all n (suc r)
  same_explored all n r need w x t field fit entered = record {
    known = x.known;
    are_known = x.are_known;
    ordered = x.ordered;
    explored = explored_same table graph (root_of all) x.known n r x.explored need.step need.ty t.entry t.at t.needed (λ asked. record {
      value = w;
      there = subst (λ o. field_of graph (vals.Ref o) need.step ≡ Some w) (sym t.object) field;
      fits = fit;
      entered = entered;
    });
  }

  met_entered :
      (all : List Visit) (n r : ℕ) (need : RequiredField) (o : ℕ) (x : IsExplored table graph all n r) (t : Known all n r need x)
      → IsMet table all o (slice_get table.classes need.ty) → IsEntered (table_shapes table) x.known (vals.Ref o) need.ty (t.entry.path ++ need.step ∷ [])
  met_entered all n r need o x t met =
      let m = reports_of all x.known met.0 met.1 x.are_known met.2 in
      let before = entries_before table graph (root_of all) x.known n r x.explored need.step need.ty t.entry t.at t.needed met.0 m.entry m.at in
      let path = t.entry.path ++ need.step ∷ [] in (
        m.entry,
        slice_get-Contains x.known met.0 m.entry m.at,
        m.object ∙ met.3,
        sym met.4 ∙ ap (slice_get table.classes) (sym m.type),
        λ after. never_before_itself m.entry.path (before_transitive m.entry.path (t.entry.path ++ need.step ∷ []) m.entry.path before after),
      )

  known_more :
      (all : List Visit) (known : List (Entry ℕ)) (v : Visit) (f p : Entry ℕ) → AreKnown all known → AreOrdered all → 0 < length known
      → f.object ≡ v.object → f.type ≡ v.ty → slice_get known v.parent ≡ Some p → f.path ≡ p.path ++ v.step ∷ []
      → AreKnown (all ++ v ∷ []) (known ++ f ∷ [])
  known_more all known v f p are ordered some object type at_p path = record {
    many = length-append known (f ∷ []) ∙ ap (λ n. n + 1) are.many ∙ sym (length-append all (v ∷ []));
    objects = λ k w e at_w at_e. ⊎_elim
        (λ here. are.objects k w e here (slice_get-append_below known (f ∷ []) k e (let inside = slice_get_within all k w here in omega (arith, inside, are.many)) at_e))
        (λ last. sym (ap (λ g. g.object) (last_entry k e last.0 at_e)) ∙ object ∙ ap (λ u. u.object) last.1)
        (slice_get-push_cases all v k w at_w);
    types = λ k w e at_w at_e. ⊎_elim
        (λ here. are.types k w e here (slice_get-append_below known (f ∷ []) k e (let inside = slice_get_within all k w here in omega (arith, inside, are.many)) at_e))
        (λ last. sym (ap (λ g. g.type) (last_entry k e last.0 at_e)) ∙ type ∙ ap (λ u. u.ty) last.1)
        (slice_get-push_cases all v k w at_w);
    root = λ e at_0. are.root e (slice_get-append_below known (f ∷ []) 0 e some at_0);
    paths = λ k w e q later at_w at_e at_q. ⊎_elim
        (λ here.
        let inside = slice_get_within all k w here in
        let old_e = slice_get-append_below known (f ∷ []) k e (omega (arith, inside, are.many)) at_e in
        old_paths k w e q later here old_e at_q)
        (λ last.
        let is = last_entry k e last.0 at_e in
        let step_is = ap (λ (u : Visit). u.step) last.1 in
        let parent_is = ap (λ (u : Visit). u.parent) last.1 in
        let at_q' = subst (λ m. slice_get (known ++ f ∷ []) m ≡ Some q) (sym parent_is) at_q in
        let at_p' = slice_get-append_left known (f ∷ []) v.parent p at_p in
        let same : p ≡ q = same_Some p q (sym at_p' ∙ at_q') in
        sym (ap (λ g. g.path) is) ∙ path ∙ ap (λ g. g.path ++ v.step ∷ []) same ∙ ap (λ s. q.path ++ s ∷ []) step_is)
        (slice_get-push_cases all v k w at_w);
  } where
    last_entry : (k : ℕ) (e : Entry ℕ) → k ≡ length all → slice_get (known ++ f ∷ []) k ≡ Some e → f ≡ e
    last_entry k e last at_e = ⊎_elim
        (λ here. let inside = slice_get_within known k e here in absurd (omega (arith, inside, are.many, last)))
        (λ is. is.1)
        (slice_get-push_cases known f k e at_e)

    old_paths : (k : ℕ) (w : Visit) (e q : Entry ℕ) → 0 < k → slice_get all k ≡ Some w → slice_get known k ≡ Some e → slice_get (known ++ f ∷ []) w.parent ≡ Some q → e.path ≡ q.path ++ w.step ∷ []
    old_paths k w e q later at_w at_e at_q =
        let inside = slice_get_within all k w at_w in
        let less = ordered k w later at_w in
        are.paths k w e q later at_w at_e (slice_get-append_below known (f ∷ []) w.parent q (omega (arith, inside, less, are.many)) at_q)

  ordered_more : (all : List Visit) (v : Visit) → AreOrdered all → v.parent < length all → AreOrdered (all ++ v ∷ [])
  ordered_more all v ordered less k w later at_k = ⊎_elim
      (λ here. ordered k w later here)
      (λ last. subst (λ u. u.parent < k) last.1 (omega (arith, last.0, less)))
      (slice_get-push_cases all v k w at_k)

  new_explored :
      (all : List Visit) (n r : ℕ) (need : RequiredField) (o : ℕ) (x : IsExplored table graph all n r) (t : Known all n r need x)
      → need.parent ≡ n → need.ty < length table.nodes → o < length graph
      → field_of graph (vals.Ref need.object) need.step ≡ Some (vals.Ref o) → (table_shapes table).fits graph (vals.Ref o) need.ty
      → ¬ IsMet table all o (slice_get table.classes need.ty)
      → IsExplored table graph (all ++ record { object = o; ty = need.ty; parent = need.parent; step = need.step } ∷ []) n (suc r)
  new_explored all n r need o x t parent type object field fit new =
      let v : Visit = record { object = o; ty = need.ty; parent = need.parent; step = need.step } in
      let f : Entry ℕ = record { path = t.entry.path ++ need.step ∷ []; object = o; type = need.ty } in
      let inside = slice_get_within x.known n t.entry t.at in
      let some : 0 < length x.known = omega arith in
      let some' : 0 < length all = omega (arith, some, x.are_known.many) in
      let grown : GrowsVisits all (all ++ v ∷ []) = record { added = v ∷ []; extends = refl } in
      let more = explored_more table graph (root_of all) x.known n r x.explored need.step need.ty o t.entry t.at t.needed t.asked
      (subst (λ p. field_of graph (vals.Ref p) need.step ≡ Some (vals.Ref o)) (sym t.object) field) fit object type (λ k e at_k is same.
      let w = slice_get_there all k (let here = slice_get_within x.known k e at_k in omega (arith, here, x.are_known.many)) in
      new (k, w.0, w.1, sym (x.are_known.objects k w.0 e w.1 at_k) ∙ is, ap (slice_get table.classes) (sym (x.are_known.types k w.0 e w.1 at_k)) ∙ same)) in
      record {
        known = x.known ++ f ∷ [];
        are_known = known_more all x.known v f t.entry x.are_known x.ordered some refl refl (subst (λ m. slice_get x.known m ≡ Some t.entry) (sym parent) t.at) refl;
        ordered = ordered_more all v x.ordered (omega (arith, inside, parent, x.are_known.many));
        explored = subst (λ o. AreExplored table graph o (x.known ++ f ∷ []) n (suc r)) (sym (root_still all (all ++ v ∷ []) some' grown)) more;
      }

  -- If a tested field matches, then the invariant is preserved.
  fitting_explored :
      (all new : List Visit) (n r : ℕ) (need : RequiredField) (w : Val) (x : IsExplored table graph all n r) → Known all n r need x
      → need.parent ≡ n → need.ty < length table.nodes → IsValue (length graph) w
      → field_of graph (vals.Ref need.object) need.step ≡ Some w → (table_shapes table).fits graph w need.ty
      → EntersValue table all new need w → IsExplored table graph new n (suc r)
  fitting_explored all new n r need (vals.Int z) x t parent type valid field fit enters =
      subst (λ v. IsExplored table graph v n (suc r)) (sym enters) (same_explored all n r need (vals.Int z) x t field fit tt)
  fitting_explored all new n r need (vals.Atom tag) x t parent type valid field fit enters =
      subst (λ v. IsExplored table graph v n (suc r)) (sym enters) (same_explored all n r need (vals.Atom tag) x t field fit tt)
  fitting_explored all new n r need (vals.Ref o) x t parent type valid field fit (inl met) =
      subst (λ v. IsExplored table graph v n (suc r)) (sym met.1)
      (same_explored all n r need (vals.Ref o) x t field fit (met_entered all n r need o x t met.0))
  fitting_explored all new n r need (vals.Ref o) x t parent type valid field fit (inr unmet) =
      subst (λ v. IsExplored table graph v n (suc r)) (sym unmet.1)
      (new_explored all n r need o x t parent type valid field fit unmet.0)

  enters_grows : (all new : List Visit) (need : RequiredField) (w : Val) → EntersValue table all new need w → GrowsVisits all new
  enters_grows all new need (vals.Int z) enters = subst (GrowsVisits all) (sym enters) (grows_not all)
  enters_grows all new need (vals.Atom tag) enters = subst (GrowsVisits all) (sym enters) (grows_not all)
  enters_grows all new need (vals.Ref o) (inl met) = subst (GrowsVisits all) (sym met.1) (grows_not all)
  enters_grows all new need (vals.Ref o) (inr unmet) = record { added = _; extends = unmet.1 }

  still_need : (old now : List Visit) (n r : ℕ) (need : RequiredField) → GrowsVisits old now → IsNeedOf old n r need → IsNeedOf now n r need
  still_need old now n r need grows is = record {
    visit = is.visit;
    at = at_still old now n is.visit grows is.at;
    parent = is.parent;
    object = is.object;
    needed = is.needed;
    asked = is.asked;
  }

  pub testing_first : (all : List Visit) (n : ℕ) → IsExplored table graph all n 0 → IsTesting table graph all all n 0
  testing_first all n x = record { grows = grows_not all; explored = x }

  -- Case: the field matches.
  pub testing_more :
      (old now new : List Visit) (n r : ℕ) (need : RequiredField) → IsTesting table graph old now n r → IsNeedOf old n r need
      → need.ty < length table.nodes → TestsNeed table graph now new need true → IsTesting table graph old new n (r + 1)
  testing_more old now new n r need testing is type tests =
      let is' = still_need old now n r need testing.grows is in
      let t = known_need now n r need testing.explored is' in
      let next : suc r ≡ r + 1 = omega arith in
      record {
        grows = grows_twice old now new testing.grows (enters_grows now new need tests.value tests.tested.1);
        explored = subst (IsExplored table graph new n) next
            (fitting_explored now new n r need tests.value testing.explored t is.parent type tests.valid tests.there tests.tested.0 tests.tested.1);
      }

  -- Case: the field's type is unconstrained.
  pub testing_wildcard :
      (old now : List Visit) (n r i a : ℕ) (v : Visit) → IsTesting table graph old now n r → slice_get old n ≡ Some v
      → slice_get (visit_fields table graph v) r ≡ Some (i, a) → is_asked_in table a ≡ false → IsTesting table graph old now n (r + 1)
  testing_wildcard old now n r i a v testing at_n at_r wildcard =
      let x = testing.explored in
      let t = reports_of now x.known n v x.are_known (at_still old now n v testing.grows at_n) in
      let needed = subst (λ u. slice_get (typed_fields table graph (vals.Ref t.entry.object) u) r ≡ Some (i, a)) (sym t.type)
      (subst (λ o. slice_get (typed_fields table graph (vals.Ref o) v.ty) r ≡ Some (i, a)) (sym t.object) at_r) in
      let next : suc r ≡ r + 1 = omega arith in
      record {
        grows = testing.grows;
        explored = subst (IsExplored table graph now n) next (record {
          known = x.known;
          are_known = x.are_known;
          ordered = x.ordered;
          explored = explored_same table graph (root_of now) x.known n r x.explored i a t.entry t.at needed
              (λ asked. absurd (false≢true (sym wildcard ∙ asked)));
        });
      }

  -- Case: all fields were tested.
  pub testing_all :
      (old now : List Visit) (n r : ℕ) (v : Visit) → IsTesting table graph old now n r → slice_get old n ≡ Some v
      → length (visit_fields table graph v) ≡ r → TestsVisit table graph old now n None
  testing_all old now n r v testing at_n all =
      let x = testing.explored in
      let t = reports_of now x.known n v x.are_known (at_still old now n v testing.grows at_n) in
      let many : length (entry_fields table graph t.entry) ≡ r =
      ap (λ o. length (typed_fields table graph (vals.Ref o) t.entry.type)) t.object
      ∙ ap (λ i. length (typed_fields table graph (vals.Ref v.object) i)) t.type ∙ all in
      record {
        grows = testing.grows;
        tested = record {
          known = x.known;
          are_known = x.are_known;
          ordered = x.ordered;
          explored = explored_next table graph (root_of now) x.known n r x.explored t.entry t.at many;
        };
      }

  -- ---- the first mismatch

  mismatch_searched :
      (root : ℕ) (known : List (Entry ℕ)) (n r i a : ℕ) (e : Entry ℕ) → AreExplored table graph root known n r
      → slice_get known n ≡ Some e → slice_get (entry_fields table graph e) r ≡ Some (i, a)
      → IsSearched (table_shapes table) graph (vals.Ref root) 0 known (λ other. IsBefore other (e.path ++ i ∷ []))
  mismatch_searched root known n r i a e x at_n at_r =
      let first : Entry ℕ = record { path = []; object = root; type = 0 } in
      record {
        down = λ path other seen not_after. ⊎_elim
            (λ before. absurd (not_after before))
            (λ others. ⊎_elim
            (λ same. subst (λ p. IsBefore p (e.path ++ i ∷ [])) same seen)
            (λ after. before_transitive other path (e.path ++ i ∷ []) after seen)
            others)
            (paths_compare path other);
        root_fits = x.fit 0 first x.rooted;
        root_entered = (first, slice_get-Contains known 0 first x.rooted, refl, refl, never_before_itself []);
        leads = λ f among. let p = Contains-position known f among in x.leads p.0 f p.1;
        tested = λ f l b w among need field before.
            let p = Contains-position known f among in
            let typed = need_typed table graph (vals.Ref f.object) f.type l b need in
            let q = Contains-position (entry_fields table graph f) (l, b) typed.0 in
            let met = x.done p.0 q.0 l b f (need_before table graph known p.0 q.0 n r l i b a f e x.increasing p.1 at_n q.1 at_r before) p.1 q.1 typed.1 in
            let same : met.value ≡ w = same_Some met.value w (sym met.there ∙ field) in (
              subst (λ v. (table_shapes table).fits graph v b) same met.fits,
              subst (λ v. IsEntered (table_shapes table) known v b (f.path ++ l ∷ [])) same met.entered,
            );
      }

  mismatch_at :
      (root : ℕ) (known : List (Entry ℕ)) (n r i a : ℕ) (e : Entry ℕ) (w : Val) → AreLawful (table_shapes table) Everything
      → AreExplored table graph root known n r → slice_get known n ≡ Some e → slice_get (entry_fields table graph e) r ≡ Some (i, a)
      → IsTrue (is_asked_in table a) → field_of graph (vals.Ref e.object) i ≡ Some w → ¬ (table_shapes table).fits graph w a
      → IsLeastFault (table_shapes table) graph (vals.Ref root) 0 (Mismatch (e.path ++ i ∷ []))
  mismatch_at root known n r i a e w lawful x at_n at_r asked field unfit =
      let leads = need_leads table graph root known n r x i a e w at_n at_r asked field in
      let mismatch : IsMismatch (table_shapes table) graph (vals.Ref root) 0 (e.path ++ i ∷ []) =
      subst (λ position. IsSomeAnd position (λ p. ¬ (table_shapes table).fits graph p.0 p.1)) (sym leads) unfit in
      mismatch_is_least (table_shapes table) lawful graph (vals.Ref root) 0 known (e.path ++ i ∷ []) (mismatch_searched root known n r i a e x at_n at_r) mismatch

  -- Case: the field does not match.
  pub testing_until :
      (old now new : List Visit) (n r : ℕ) (need : RequiredField) → IsLawful table → IsTesting table graph old now n r → IsNeedOf old n r need
      → TestsNeed table graph now new need false → TestsVisit table graph old new n (Some need.step)
  testing_until old now new n r need lawful testing is tests =
      let is' = still_need old now n r need testing.grows is in
      let x = testing.explored in
      let t = known_need now n r need x is' in
      let field = subst (λ o. field_of graph (vals.Ref o) need.step ≡ Some tests.value) (sym t.object) tests.there in
      let same : now ≡ new = sym tests.tested.1 in
      record {
        grows = subst (GrowsVisits old) same testing.grows;
        tested = subst (λ all. IsMismatchAt table graph all n need.step) same (record {
          in_range = slice_get_within now n is'.visit is'.at;
          ordered = x.ordered;
          least = λ path leads. subst (λ p. IsLeastFault (table_shapes table) graph (vals.Ref (root_of now)) 0 (Mismatch (p ++ need.step ∷ []))) (sym (leads x.known t.entry x.are_known t.at))
              (mismatch_at (root_of now) x.known n r need.step need.ty t.entry tests.value lawful.lawful x.explored t.at t.needed t.asked field tests.tested.0);
        });
      }
