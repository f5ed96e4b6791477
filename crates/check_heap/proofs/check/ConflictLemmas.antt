-- The first visit that conflicts with an earlier one, found by the first visit of each object.
use Rattle.std.proofs.Common.{ℕ, zero, suc, ◌+◌, ◌-◌, ◌<◌, ◌≤◌, ◌≡◌, ◌∙◌, ◌⊎◌, inl, inr, ⊎_elim, List, length, Some, refl, sym, ap, subst, arith}
use Rattle.std.specs.Prelude.{slice_get, slice_index, All, IsTrue}
use Rattle.std.proofs.lemmas.Bool.{cases_lt}
use Rattle.std.proofs.lemmas.List.Elements.{All-contains}
use Rattle.std.proofs.lemmas.Option.{same_Some}
use Rattle.base_data.proofs.model.Options.{slice_get_there, slice_get-Contains}
use Rattle.base_data.specs.declared.model.value.Obj.{Obj}
use Rattle.types_spec.specs.types.Table.{Table}
use Rattle.check_heap.specs.declared.check.visits.Visit.{Visit}
use Rattle.check_heap.specs.declared.check.visits.Visits.{Visits}
use Rattle.check_heap.specs.check.Visits.{listed, AreLinked, IsFirstAt}
use Rattle.check_heap.specs.scan.Classed.{Has, IsUntouched}
use Rattle.check_heap.proofs.scan.ScanPositionLemmas.{read_at}
use Rattle.check_heap.proofs.scan.ClassedLemmas.{untouched_none}
use Rattle.check_heap.specs.check.Conflict.{IsWithin, mutable_at, AreApart, ConflictAt, NoneConflict, ConflictsBack, IsFirstOf, IsFirstConflict}

-- Each object has a first visit with a type.
abbrev pub AllHaveFirst : List Visit → Type 0
AllHaveFirst all = (k : ℕ) (v : Visit) → slice_get all k ≡ Some v → (t : ℕ) × IsFirstAt all v.object t

module _ (table : Table) (objects : ℕ) (visits : Visits) (linked : AreLinked table objects visits) where
  pub first_noted :
      (k o : ℕ) (v : Visit) → slice_get (listed visits) k ≡ Some v → v.object ≡ o → o < objects
      → (t : ℕ) × (slice_get visits.first o ≡ Some (suc t))
  first_noted k o v at_k is inside =
      let cell = slice_get_there visits.first o (omega (arith, inside, linked.many)) in
      number cell.0 cell.1 where
        number : (n : ℕ) → slice_get visits.first o ≡ Some n → (t : ℕ) × (slice_get visits.first o ≡ Some (suc t))
        number zero at_o = absurd (linked.noted.unmet o k v at_o at_k is)
        number (suc t) at_o = (t, at_o)

pub own_within : (table : Table) (graph : List Obj) (all : List Visit) (k : ℕ) (v : Visit) → All (IsWithin table graph) all → slice_get all k ≡ Some v → IsWithin table graph v
own_within table graph all k v within at_k = All-contains (IsWithin table graph) all v within (slice_get-Contains all k v at_k)

pub all_have_first :
    (table : Table) (graph : List Obj) (visits : Visits) → AreLinked table (length graph) visits → All (IsWithin table graph) (listed visits)
    → AllHaveFirst (listed visits)
all_have_first table graph visits linked within k v at_k =
    let object = (own_within table graph (listed visits) k v within at_k).0 in
    let cell = first_noted table (length graph) visits linked k v.object v at_k refl object in
    (cell.0, linked.noted.met v.object cell.0 cell.1)

pub first_within : (table : Table) (graph : List Obj) (all : List Visit) (o t : ℕ) → All (IsWithin table graph) all → IsFirstAt all o t → t < length table.nodes
first_within table graph all o t within first =
    subst (λ i. i < length table.nodes) first.type (All-contains (IsWithin table graph) all first.visit within (slice_get-Contains all first.position first.visit first.at)).1

-- The number recorded for a visit's object is 1 plus the type of the object's first visit.
pub first_read :
    (table : Table) (graph : List Obj) (visits : Visits) (k n : ℕ) (v : Visit) → AreLinked table (length graph) visits
    → All (IsWithin table graph) (listed visits) → slice_get (listed visits) k ≡ Some v → n ≡ slice_index visits.first v.object
    → (0 < n) × IsFirstAt (listed visits) v.object (n - 1)
first_read table graph visits k n v linked within at_k is =
    let object = (own_within table graph (listed visits) k v within at_k).0 in
    let cell = first_noted table (length graph) visits linked k v.object v at_k refl object in
    let read = read_at visits.first v.object n (omega (arith, object, linked.many)) is in
    let same : n ≡ suc cell.0 = same_Some n (suc cell.0) (sym read ∙ cell.1) in
    let back : cell.0 ≡ n - 1 = omega (arith, same) in
    (omega (arith, same), subst (IsFirstAt (listed visits) v.object) back (linked.noted.met v.object cell.0 cell.1))

-- If no object was visited at a second class, then each object has one visit.
pub none_later :
    (table : Table) (graph : List Obj) (visits : Visits) → AreLinked table (length graph) visits → All (IsWithin table graph) (listed visits)
    → length table.classes ≡ length table.nodes → AreApart table (listed visits) → IsUntouched visits.later
    → NoneConflict table graph (listed visits) (length (listed visits))
none_later table graph visits linked within classed apart none i k less c =
    let object = (own_within table graph (listed visits) k c.other within c.at_second).0 in
    let cell = first_noted table (length graph) visits linked k c.other.object c.other c.at_second refl object in
    let one = class_of i c.one c.at_first c.same cell.0 cell.1 in
    let other = class_of k c.other c.at_second refl cell.0 cell.1 in
    let position = apart i k c.one c.other c.at_first c.at_second c.same (one ∙ sym other) in
    let before = c.before in omega (arith, before, position) where
      unknown : (d : ℕ) → ¬ Has visits.later c.other.object d
      unknown = untouched_none visits.later none c.other.object

      class_of :
          (j : ℕ) (v : Visit) → slice_get (listed visits) j ≡ Some v → v.object ≡ c.other.object → (t : ℕ)
          → slice_get visits.first c.other.object ≡ Some (suc t) → slice_get table.classes v.ty ≡ slice_get table.classes t
      class_of j v at_j same t at_o =
          let inside = (own_within table graph (listed visits) j v within at_j).1 in
          let class = slice_get_there table.classes v.ty (omega (arith, inside, classed)) in
          class.1 ∙ sym (⊎_elim (λ is. is) (λ later. absurd (unknown class.0 later)) (linked.noted.known c.other.object t j class.0 v at_o at_j same class.1))

module _ (table : Table) (graph : List Obj) (all : List Visit) where
  -- ---- one visit and the first of its object

  module _ (k t : ℕ) (v : Visit) (at_k : slice_get all k ≡ Some v) (first : IsFirstAt all v.object t) where
    position_within : first.position ≤ k
    position_within = ⊎_elim
        (λ less. absurd (first.none k v less at_k (ap (λ (u : Visit). u.object) (same_Some v v at_k'))))
        (λ more. more)
        (cases_lt k first.position) where
          at_k' : Some v ≡ Some v
          at_k' = sym at_k ∙ at_k

    pub first_of_own : IsFirstOf all k first.position
    first_of_own = record {
      within = position_within;
      first = first.visit;
      at_first = first.at;
      same = λ w at_w. first.object ∙ ap (λ (u : Visit). u.object) (same_Some v w (sym at_k ∙ at_w));
      none = λ j w less at_j is. first.none j w less at_j (is ∙ first.object);
    }

    own_position : (f : ℕ) → IsFirstOf all k f → first.position ≡ f
    own_position f is = ⊎_elim
        (λ less. absurd (is.none first.position first.visit less first.at (first.object ∙ sym (is.same v at_k))))
        (λ more. ⊎_elim
        (λ less'. absurd (first.none f is.first less' is.at_first (is.same v at_k)))
        (λ more'. omega (arith, more, more'))
        (cases_lt f first.position))
        (cases_lt first.position f)

    first_mutable : (w : Visit) → w.object ≡ v.object → w.ty ≡ t → mutable_at table graph first.visit ≡ mutable_at table graph w
    first_mutable w object type =
        ap (λ o. mutable_at table graph (record { object = o; ty = first.visit.ty; parent = 0; step = 0 })) (first.object ∙ sym object)
        ∙ ap (λ i. mutable_at table graph (record { object = w.object; ty = i; parent = 0; step = 0 })) (first.type ∙ sym type)

    -- Case: the two visits are at different classes.
    pub conflict_from :
        (w : Visit) → w.object ≡ v.object → w.ty ≡ t → ¬ (slice_get table.classes t ≡ slice_get table.classes v.ty)
        → IsTrue (mutable_at table graph w) ⊎ IsTrue (mutable_at table graph v) → ConflictsBack table graph all k
    conflict_from w object type other mutable = (
      first.position,
      first_of_own,
      record {
        one = first.visit;
        other = v;
        at_first = first.at;
        at_second = at_k;
        before = ⊎_elim (λ less. less) (λ more. absurd (other (same_class (omega (arith, more, position_within))))) (cases_lt first.position k);
        same = first.object;
        mutable = ⊎_elim (λ one. inl (first_mutable w object type ∙ one)) (λ own. inr own) mutable;
      },
    ) where
      same_class : first.position ≡ k → slice_get table.classes t ≡ slice_get table.classes v.ty
      same_class position =
          let is : first.visit ≡ v = same_Some first.visit v (sym first.at ∙ ap (slice_get all) position ∙ at_k) in
          ap (slice_get table.classes) (sym first.type ∙ ap (λ (u : Visit). u.ty) is)

    pub conflict_to :
        (w : Visit) → w.object ≡ v.object → w.ty ≡ t → ConflictsBack table graph all k
        → IsTrue (mutable_at table graph w) ⊎ IsTrue (mutable_at table graph v)
    conflict_to w object type back =
        let c = back.2 in
        let position = own_position back.0 back.1 in
        let one : first.visit ≡ c.one = same_Some first.visit c.one (sym first.at ∙ ap (slice_get all) position ∙ c.at_first) in
        let own : c.other ≡ v = same_Some c.other v (sym c.at_second ∙ at_k) in
        ⊎_elim
        (λ mutable. inl (sym (first_mutable w object type) ∙ ap (mutable_at table graph) one ∙ mutable))
        (λ mutable. inr (ap (mutable_at table graph) (sym own) ∙ mutable))
        c.mutable

    pub no_conflict : AreApart table all → slice_get table.classes t ≡ slice_get table.classes v.ty → ¬ ConflictsBack table graph all k
    no_conflict apart class back =
        let c = back.2 in
        let position = own_position back.0 back.1 in
        let same = apart first.position k first.visit v first.at at_k first.object (ap (slice_get table.classes) first.type ∙ class) in
        let before = c.before in omega (arith, position, same, before)

  -- ---- the loop

  -- If no earlier visits conflict, then a visit that conflicts with any earlier visit conflicts
  -- with the first visit of its object.
  found_back : AllHaveFirst all → (k i : ℕ) → NoneConflict table graph all k → ConflictAt table graph all i k → ConflictsBack table graph all k
  found_back firsts k i none c =
      let f = firsts k c.other c.at_second in
      let first = f.1 in
      let before = c.before in
      let within : first.position ≤ i = ⊎_elim (λ less. absurd (first.none i c.one less c.at_first c.same)) (λ more. more) (cases_lt i first.position) in (
        first.position,
        first_of_own k f.0 c.other c.at_second first,
        record {
          one = first.visit;
          other = c.other;
          at_first = first.at;
          at_second = c.at_second;
          before = omega (arith, within, before);
          same = first.object;
          mutable = ⊎_elim
              (λ one. ⊎_elim
              (λ less. absurd (none first.position i before (record {
                one = first.visit;
                other = c.one;
                at_first = first.at;
                at_second = c.at_first;
                before = less;
                same = first.object ∙ sym c.same;
                mutable = inr one;
              })))
              (λ more.
              let position : i ≡ first.position = omega (arith, more, within) in
              let is : c.one ≡ first.visit = same_Some c.one first.visit (sym c.at_first ∙ ap (slice_get all) position ∙ first.at) in
              inl (ap (mutable_at table graph) (sym is) ∙ one))
              (cases_lt first.position i))
              (λ other. inr other)
              c.mutable;
        },
      )

  pub none_more : AllHaveFirst all → (k : ℕ) → NoneConflict table graph all k → ¬ ConflictsBack table graph all k → NoneConflict table graph all (k + 1)
  none_more firsts k none back i m less c = ⊎_elim
      (λ earlier. none i m earlier c)
      (λ late. let here : m ≡ k = omega (arith, less, late) in back (found_back firsts k i none (subst (ConflictAt table graph all i) here c)))
      (cases_lt m k)

  pub first_conflict_is :
      (k f : ℕ) → NoneConflict table graph all k → ConflictsBack table graph all k → IsFirstOf all k f → IsFirstConflict table graph all f k
  first_conflict_is k f none back first =
      let c = back.2 in
      let own : first.first.object ≡ c.other.object = first.same c.other c.at_second in
      record {
        conflict = subst (λ g. ConflictAt table graph all g k) same_position c;
        second = none;
        first = λ j less d.
            let is : d.other ≡ c.other = same_Some d.other c.other (sym d.at_second ∙ c.at_second) in
            first.none j d.one less d.at_first (d.same ∙ ap (λ (u : Visit). u.object) is ∙ sym own);
      } where
        same_position : back.0 ≡ f
        same_position =
            let c = back.2 in
            let one = back.1 in
            ⊎_elim
            (λ less. absurd (first.none back.0 one.first less one.at_first (one.same c.other c.at_second ∙ sym (first.same c.other c.at_second))))
            (λ more. ⊎_elim
            (λ less'. absurd (one.none f first.first less' first.at_first (first.same c.other c.at_second ∙ sym (one.same c.other c.at_second))))
            (λ more'. omega (arith, more, more'))
            (cases_lt f back.0))
            (cases_lt back.0 f)
