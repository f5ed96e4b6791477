-- The bound on the steps of a check.
use Rattle.std.proofs.Common.{ℕ, zero, suc, ◌+◌, ◌-◌, ◌<◌, ◌≤◌, ◌≡◌, ◌∙◌, ◌⊎◌, inl, inr, ⊎_elim, ◌++◌, Bool, true, false, List, [], ◌∷◌, length, take, Option, Some, None, refl, sym, ap, ap₂, subst, arith, eqb-true}
use Rattle.std.specs.Prelude.{slice_get, slice_index, nat_lt, map, sum_by, Contains, unwrap_or, if◌then◌else◌}
use Rattle.std.proofs.lemmas.Bool.{false≢true, eq-eqb, ltb-false, le-ltb}
use Rattle.std.proofs.lemmas.List.{length-take}
use Rattle.std.proofs.lemmas.List.Sums.{sum_by-cons}
use Rattle.std.proofs.lemmas.Option.{same_Some, none-some, unwrap_or-slice_get, slice_get_within}
use Rattle.base_data.proofs.model.Options.{map-Contains, Contains-map, Contains-first, Contains-later, Contains-cases, slice_get-Contains}
use Rattle.base_data.specs.declared.model.value.Obj.{Obj}
use Rattle.base_data.proofs.model.Lists.{Contains-position}
use Rattle.types_spec.specs.types.Fitting.{numbered_from}
use Rattle.types_spec.specs.types.StepBounds.{most_steps}
use Rattle.types_spec.specs.types.Table.{Table}
use Rattle.types_table.specs.type_table.Made.{IsLawful}
use Rattle.types_theory.specs.typing.StepLaws.{AreApart, key_of, AreEntries}
use Rattle.check_heap.specs.declared.check.visits.Visit.{Visit}
use Rattle.check_heap.specs.check.Explored.{IsExplored}
use Rattle.check_heap.specs.check.Search.{is_of_class, is_taken, counted, spent, pairs_of}
use Rattle.check_heap.specs.scan.Scanned as scans
use Rattle.check_heap.specs.declared.scan.taken_objects.TakenObjects.{TakenObjects}
use Rattle.check_heap.specs.scan.TakenObjects.{types_in, all_fields, seen_of, size_of, rest_of}
use Rattle.check_heap.specs.scan.Scanned.{AreTaken, left_of}
use Rattle.check_heap.proofs.scan.ScanPositionLemmas.{read_at, mapped_at}
use Rattle.check_heap.proofs.scan.ScanLemmas.{pair_at, types_entries}
use Rattle.check_heap.proofs.scan.ScanSizeLemmas.{sizes_are_few}
use Rattle.check_heap.proofs.check.CheckVisitLemmas.{visit_within, visits_apart}

-- ---- lists with distinct elements

apart_rest : {X : Type 0} (x : X) (xs : List X) → AreApart (x ∷ xs) → AreApart xs
apart_rest x xs apart j k y at_j at_k = let same = apart (suc j) (suc k) y at_j at_k in omega (arith, same)

apart_first : {X : Type 0} (x : X) (xs : List X) → AreApart (x ∷ xs) → ¬ Contains xs x
apart_first x xs apart has = let p = Contains-position xs x has in let same = apart 0 (suc p.0) x refl p.1 in omega (arith, same)

apart_more : {X : Type 0} (x : X) (xs : List X) → ¬ Contains xs x → AreApart xs → AreApart (x ∷ xs)
apart_more x xs new apart zero zero y at_j at_k = refl
apart_more x xs new apart zero (suc k) y at_j at_k = absurd (new (slice_get-Contains xs k x (at_k ∙ sym at_j)))
apart_more x xs new apart (suc j) zero y at_j at_k = absurd (new (slice_get-Contains xs j x (at_j ∙ sym at_k)))
apart_more x xs new apart (suc j) (suc k) y at_j at_k = ap suc (apart j k y at_j at_k)

length_taken : {X : Type 0} (n : ℕ) (xs : List X) → length (take n xs) ≤ n
length_taken n xs = omega (arith, length-take n xs)

abbrev pair_of : Visit → ℕ × ℕ
pair_of v = (v.object, v.ty)

module _ (table : Table) (graph : List Obj) where
  pub spent_next : (taken : TakenObjects) (all : List Visit) (n : ℕ) (v : Visit) → slice_get all n ≡ Some v → spent table graph taken all (n + 1) ≡ spent table graph taken all n + counted table graph taken v
  spent_next taken all n v at_n = let next : n + 1 ≡ suc n = omega arith in ap (spent table graph taken all) next ∙ by_position all n at_n where
    by_position : (all : List Visit) (n : ℕ) → slice_get all n ≡ Some v → spent table graph taken all (suc n) ≡ spent table graph taken all n + counted table graph taken v
    by_position [] n at_n = absurd (none-some v at_n)
    by_position (w ∷ []) zero at_n = let same = ap (counted table graph taken) (same_Some w v at_n) in omega (arith, same)
    by_position (w ∷ u ∷ all) zero at_n = let same = ap (counted table graph taken) (same_Some w v at_n) in omega (arith, same)
    by_position (w ∷ all) (suc n) at_n = let rest = by_position all n at_n in omega (arith, rest)

  pub spent-append : (taken : TakenObjects) (old added : List Visit) (n : ℕ) → n ≤ length old → spent table graph taken (old ++ added) n ≡ spent table graph taken old n
  spent-append taken [] [] n less = refl
  spent-append taken [] (v ∷ added) zero less = refl
  spent-append taken [] (v ∷ added) (suc n) less = absurd (omega arith)
  spent-append taken (v ∷ old) added zero less = refl
  spent-append taken (v ∷ old) added (suc n) less = ap (λ m. counted table graph taken v + m) (spent-append taken old added n (omega arith))

  -- ---- objects that a scan has checked, and the other visits

  abbrev cost : ℕ × ℕ → ℕ
  cost entry = 1 + size_of graph entry.0

  module _ (taken : TakenObjects) where
    abbrev types : List ℕ
    types = types_in taken

    -- The fields of a visit's object that a scan did not test.
    abbrev rest : Visit → ℕ
    rest v = rest_of (size_of graph v.object) (seen_of taken v.object)

    abbrev all_pairs : List Visit → List (ℕ × ℕ)
    all_pairs [] = numbered_from 0 types
    all_pairs (v ∷ all) = if is_taken table taken v then all_pairs all else pair_of v ∷ all_pairs all

    taken_within : (all : List Visit) → sum_by cost (numbered_from 0 types) ≤ sum_by cost (all_pairs all)
    taken_within [] = omega arith
    taken_within (v ∷ all) = by_test (is_taken table taken v) (taken_within all) where
      by_test :
          (test : Bool) → sum_by cost (numbered_from 0 types) ≤ sum_by cost (all_pairs all)
          → sum_by cost (numbered_from 0 types) ≤ sum_by cost (if test then all_pairs all else pair_of v ∷ all_pairs all)
      by_test true before = before
      by_test false before = omega (arith, before, sum_by-cons cost (pair_of v) (all_pairs all))

    -- If the bound on the steps holds, then it holds with one more visit.
    more_within :
        (v : Visit) (all : List Visit) (n left less : ℕ) → less ≤ left
        → (is_taken table taken v ≡ true → (rest v + spent table graph taken all n) + sum_by cost (numbered_from 0 types) ≤ sum_by cost (all_pairs all) + left)
        → spent table graph taken all n + sum_by cost (numbered_from 0 types) ≤ sum_by cost (all_pairs all) + less + (left - less)
        → spent table graph taken (v ∷ all) (suc n) + sum_by cost (numbered_from 0 types) ≤ sum_by cost (all_pairs (v ∷ all)) + left
    more_within v all n left less within known fresh = by_test (is_taken table taken v) refl where
      by_test :
          (test : Bool) → is_taken table taken v ≡ test
          → ((if test then rest v else 1 + size_of graph v.object) + spent table graph taken all n) + sum_by cost (numbered_from 0 types)
          ≤ sum_by cost (if test then all_pairs all else pair_of v ∷ all_pairs all) + left
      by_test true is = known is
      by_test false is = omega (arith, within, fresh, sum_by-cons cost (pair_of v) (all_pairs all))

    -- The visits whose objects a scan has checked have no untested fields.
    abbrev NoneLeft : List Visit → Type 0
    NoneLeft all = (v : Visit) → Contains all v → is_taken table taken v ≡ true → rest v ≡ 0

    spent_none : (all : List Visit) (n : ℕ) → NoneLeft all → spent table graph taken all n + sum_by cost (numbered_from 0 types) ≤ sum_by cost (all_pairs all) + 0
    spent_none [] n none = omega arith
    spent_none (v ∷ all) zero none = let before = taken_within (v ∷ all) in omega (arith, before)
    spent_none (v ∷ all) (suc n) none =
        let before = spent_none all n (λ w among. none w (Contains-later v all w among)) in
        more_within v all n 0 0 (omega arith) (λ is. let own = none v (Contains-first v all) is in omega (arith, own, before)) (omega (arith, before))

    -- Only the last object that a scan has checked may have untested fields, in one visit.
    rest_before : (v : Visit) → nat_lt (suc v.object) taken.objects ≡ true → rest v ≡ 0
    rest_before v is = subst (λ (b : Bool). rest_of (size_of graph v.object) (if b then all_fields else taken.seen) ≡ 0) (sym is) refl

    rest_last : (v : Visit) → taken.objects ≡ suc v.object → rest v ≡ left_of graph taken
    rest_last v last =
        let own : nat_lt (suc v.object) taken.objects ≡ false = le-ltb (suc v.object) taken.objects (omega (arith, last)) in
        let object : taken.objects - 1 ≡ v.object = omega (arith, last) in
        subst (λ (b : Bool). rest_of (size_of graph v.object) (if b then all_fields else taken.seen) ≡ rest_of (size_of graph v.object) taken.seen) (sym own) refl
        ∙ ap (λ o. rest_of (size_of graph o) taken.seen) (sym object)

    pub taken_at : (v : Visit) → is_taken table taken v ≡ true → (u : ℕ) × (slice_get types v.object ≡ Some u) × (slice_index table.classes u ≡ slice_index table.classes v.ty)
    taken_at v = by_type (slice_get types v.object) refl where
      by_type :
          (found : Option ℕ) → slice_get types v.object ≡ found → is_of_class table found v.ty ≡ true
          → (u : ℕ) × (slice_get types v.object ≡ Some u) × (slice_index table.classes u ≡ slice_index table.classes v.ty)
      by_type None at_o is = absurd (false≢true is)
      by_type (Some u) at_o is = (u, at_o, eqb-true (slice_index table.classes u) (slice_index table.classes v.ty) is)

    last_object : (v : Visit) → is_taken table taken v ≡ true → nat_lt (suc v.object) taken.objects ≡ false → taken.objects ≡ suc v.object
    last_object v is late =
        let at_o = taken_at v is in
        let inside = slice_get_within types v.object at_o.0 at_o.1 in
        let few = length_taken taken.objects taken.types in
        let less = ltb-false (suc v.object) taken.objects late in
        omega (arith, inside, few, less)

    -- If a scan has checked the object of two visits at their types, then the two visits have the
    -- same key.
    same_key :
        (v w : Visit) → v.ty < length table.classes → w.ty < length table.classes → is_taken table taken v ≡ true → is_taken table taken w ≡ true
        → w.object ≡ v.object → key_of table (pair_of w) ≡ key_of table (pair_of v)
    same_key v w within other first second object =
        let one = taken_at v first in
        let two = taken_at w second in
        let type : one.0 ≡ two.0 = same_Some one.0 two.0 (sym one.1 ∙ ap (slice_get types) (sym object) ∙ two.1) in
        let class : slice_get table.classes w.ty ≡ slice_get table.classes v.ty =
        read_at table.classes w.ty (slice_index table.classes w.ty) other refl
        ∙ ap Some (sym two.2 ∙ ap (slice_index table.classes) (sym type) ∙ one.2)
        ∙ sym (read_at table.classes v.ty (slice_index table.classes v.ty) within refl) in
        ap₂ (λ (o : ℕ) (c : Option ℕ). (o, c)) object class

    spent_within :
        (all : List Visit) (n : ℕ) → ((v : Visit) → Contains all v → v.ty < length table.classes) → AreApart (map (key_of table) (pairs_of all))
        → spent table graph taken all n + sum_by cost (numbered_from 0 types) ≤ sum_by cost (all_pairs all) + left_of graph taken
    spent_within [] n typed apart = omega arith
    spent_within (v ∷ all) zero typed apart = let before = taken_within (v ∷ all) in omega (arith, before)
    spent_within (v ∷ all) (suc n) typed apart =
        let left = left_of graph taken in
        let before = spent_within all n (λ w among. typed w (Contains-later v all w among)) (apart_rest (key_of table (pair_of v)) (map (key_of table) (pairs_of all)) apart) in
        more_within v all n left left (omega arith) (λ is. by_position (nat_lt (suc v.object) taken.objects) refl is before) (omega (arith, before)) where
          late_none : is_taken table taken v ≡ true → taken.objects ≡ suc v.object → NoneLeft all
          late_none first last w among second = by_own (nat_lt (suc w.object) taken.objects) refl where
            by_own : (test : Bool) → nat_lt (suc w.object) taken.objects ≡ test → rest w ≡ 0
            by_own true early = rest_before w early
            by_own false late =
                let own = last_object w second late in
                let object : w.object ≡ v.object = omega (arith, own, last) in
                let key = same_key v w (typed v (Contains-first v all)) (typed w (Contains-later v all w among)) first second object in
                absurd (apart_first (key_of table (pair_of v)) (map (key_of table) (pairs_of all)) apart
                (subst (Contains (map (key_of table) (pairs_of all))) key (Contains-map (key_of table) (pairs_of all) (pair_of w) (Contains-map pair_of all w among))))

          by_position :
              (test : Bool) → nat_lt (suc v.object) taken.objects ≡ test → is_taken table taken v ≡ true
              → spent table graph taken all n + sum_by cost (numbered_from 0 types) ≤ sum_by cost (all_pairs all) + left_of graph taken
              → (rest v + spent table graph taken all n) + sum_by cost (numbered_from 0 types) ≤ sum_by cost (all_pairs all) + left_of graph taken
          by_position true early is before = let none = rest_before v early in omega (arith, none, before)
          by_position false late is before =
              let last = last_object v is late in
              let own = rest_last v last in
              let none = spent_none all n (late_none is last) in
              omega (arith, own, none)

    among : (all : List Visit) (p : ℕ × ℕ) → Contains (all_pairs all) p → Contains (pairs_of all) p ⊎ Contains (numbered_from 0 types) p
    among [] p = λ has. inr has
    among (v ∷ all) p =
        by_test (is_taken table taken v) (λ has. ⊎_elim (λ one. inl (Contains-later (pair_of v) (pairs_of all) p one)) (λ other. inr other) (among all p has)) where
          by_test :
              (test : Bool) → (Contains (all_pairs all) p → Contains (pair_of v ∷ pairs_of all) p ⊎ Contains (numbered_from 0 types) p)
              → Contains (if test then all_pairs all else pair_of v ∷ all_pairs all) p → Contains (pair_of v ∷ pairs_of all) p ⊎ Contains (numbered_from 0 types) p
          by_test true later has = later has
          by_test false later has = ⊎_elim
              (λ here. inl (subst (Contains (pair_of v ∷ pairs_of all)) here (Contains-first (pair_of v) (pairs_of all))))
              later
              (Contains-cases (pair_of v) (all_pairs all) p has)

    -- If a scan has not checked a visit, then the visit's key differs from the keys of the checked
    -- pairs.
    not_taken : (v : Visit) → is_taken table taken v ≡ false → ¬ Contains (map (key_of table) (numbered_from 0 types)) (key_of table (pair_of v))
    not_taken v fresh has =
        let p = map-Contains (key_of table) (numbered_from 0 types) (key_of table (pair_of v)) has in
        let object : p.0.0 ≡ v.object = ap (λ (y : ℕ × Option ℕ). y.0) p.2 in
        let class = ap (λ (y : ℕ × Option ℕ). unwrap_or y.1 0) p.2 in
        let there : slice_get types v.object ≡ Some p.0.1 = ap (slice_get types) (sym object) ∙ pair_at types p.0.0 p.0.1 p.1 in
        let equal : slice_index table.classes p.0.1 ≡ slice_index table.classes v.ty =
        sym (unwrap_or-slice_get table.classes p.0.1 0) ∙ class ∙ unwrap_or-slice_get table.classes v.ty 0 in
        let test : is_taken table taken v ≡ true = ap (λ u. is_of_class table u v.ty) there ∙ eq-eqb (slice_index table.classes p.0.1) (slice_index table.classes v.ty) equal in
        false≢true (sym fresh ∙ test)

    all_apart : AreApart (map (key_of table) (numbered_from 0 types)) → (all : List Visit) → AreApart (map (key_of table) (pairs_of all)) → AreApart (map (key_of table) (all_pairs all))
    all_apart base [] apart = base
    all_apart base (v ∷ all) apart =
        by_test (is_taken table taken v) refl (all_apart base all (apart_rest (key_of table (pair_of v)) (map (key_of table) (pairs_of all)) apart)) where
          new : is_taken table taken v ≡ false → ¬ Contains (map (key_of table) (all_pairs all)) (key_of table (pair_of v))
          new fresh has =
              let key = key_of table (pair_of v) in
              let p = map-Contains (key_of table) (all_pairs all) key has in
              ⊎_elim
              (λ one. apart_first key (map (key_of table) (pairs_of all)) apart (subst (Contains (map (key_of table) (pairs_of all))) p.2 (Contains-map (key_of table) (pairs_of all) p.0 one)))
              (λ other. not_taken v fresh (subst (Contains (map (key_of table) (numbered_from 0 types))) p.2 (Contains-map (key_of table) (numbered_from 0 types) p.0 other)))
              (among all p.0 p.1)

          by_test :
              (test : Bool) → is_taken table taken v ≡ test → AreApart (map (key_of table) (all_pairs all))
              → AreApart (map (key_of table) (if test then all_pairs all else pair_of v ∷ all_pairs all))
          by_test true is rest = rest
          by_test false is rest = apart_more (key_of table (pair_of v)) (map (key_of table) (all_pairs all)) (new is) rest

  pub pairs_apart : (all : List Visit) (n r : ℕ) → IsExplored table graph all n r → AreApart (map (key_of table) (pairs_of all))
  pairs_apart all n r x j k key at_j at_k =
      let p = mapped_at (key_of table) (pairs_of all) j key at_j in
      let q = mapped_at (key_of table) (pairs_of all) k key at_k in
      let v = mapped_at pair_of all j p.0 p.1 in
      let w = mapped_at pair_of all k q.0 q.1 in
      let same = p.2 ∙ sym q.2 in
      let one = ap (key_of table) v.2 ∙ same ∙ sym (ap (key_of table) w.2) in
      visits_apart table graph all n r j k v.0 w.0 x v.1 w.1 (ap (λ (y : ℕ × Option ℕ). y.0) one) (ap (λ (y : ℕ × Option ℕ). y.1) one)

  entries : (all : List Visit) (n r : ℕ) → IsLawful table → IsExplored table graph all n r → AreEntries table graph (pairs_of all)
  entries all n r lawful x = record {
    objects = λ o i among.
        let v = map-Contains pair_of all (o, i) among in
        let k = Contains-position all v.0 v.1 in
        subst (λ (y : ℕ × ℕ). y.0 < length graph) v.2 (visit_within table graph all n r k.0 v.0 x k.1).0;
    types = λ o i among.
        let v = map-Contains pair_of all (o, i) among in
        let k = Contains-position all v.0 v.1 in
        let within = (visit_within table graph all n r k.0 v.0 x k.1).1 in
        subst (λ (y : ℕ × ℕ). y.1 < length table.classes) v.2 (omega (arith, within, lawful.classed));
    apart = pairs_apart all n r x;
  }

  all_entries : (taken : TakenObjects) (all : List Visit) (n r : ℕ) → IsLawful table → AreTaken table graph taken → IsExplored table graph all n r → AreEntries table graph (all_pairs taken all)
  all_entries taken all n r lawful are x =
      let visited = entries all n r lawful x in
      let before = types_entries table graph (types_in taken) lawful are.many are.within in
      record {
        objects = λ o i has. ⊎_elim (visited.objects o i) (before.objects o i) (among taken all (o, i) has);
        types = λ o i has. ⊎_elim (visited.types o i) (before.types o i) (among taken all (o, i) has);
        apart = all_apart taken before.apart all visited.apart;
      }

  -- The steps of the root, of a scan and of the visits so far are within the bound.
  pub spent_few :
      (taken : TakenObjects) (all : List Visit) (n r m : ℕ) → IsLawful table → AreTaken table graph taken → IsExplored table graph all n r
      → 1 + (spent table graph taken all m + scans.cost_of graph (types_in taken)) ≤ left_of graph taken + most_steps table graph
  spent_few taken all n r m lawful are x =
      let few = sizes_are_few table graph (all_pairs taken all) (all_entries taken all n r lawful are x) in
      let typed : (v : Visit) → Contains all v → v.ty < length table.classes = λ v among. (entries all n r lawful x).types v.object v.ty (Contains-map pair_of all v among) in
      let within = spent_within taken all m typed (pairs_apart all n r x) in
      omega (arith, few, within)

  -- The steps of the root and of a scan are within the bound.
  pub taken_few : (taken : TakenObjects) → IsLawful table → AreTaken table graph taken → 1 + scans.cost_of graph (types_in taken) ≤ most_steps table graph
  taken_few taken lawful are = sizes_are_few table graph (numbered_from 0 (types_in taken)) (types_entries table graph (types_in taken) lawful are.many are.within)
