-- The consequences of all visits for the value, if no field of the visits is a mismatch.
use Rattle.std.proofs.Common.{ℕ, ◌<◌, ◌≤◌, ◌≡◌, ◌∙◌, inl, inr, ⊎_elim, ◌++◌, List, [], ◌∷◌, length, Some, refl, sym, ap, subst, arith}
use Rattle.std.specs.Prelude.{slice_get, Contains, IsSomeAnd, IsTrue}
use Rattle.std.proofs.lemmas.Option.{same_Some, slice_get_within}
use Rattle.base_data.proofs.model.Options.{slice_get-Contains, slice_get_there, Contains-map, map-Contains}
use Rattle.base_data.specs.declared.model.value.Val.{Val}
use Rattle.base_data.specs.declared.model.value.Val.TheVariants as vals
use Rattle.base_data.specs.declared.model.value.Obj.{Obj}
use Rattle.base_data.proofs.model.Lists.{Contains-position}
use Rattle.base_data.proofs.model.Numbers.{less_same_more}
use Rattle.types_spec.specs.declared.types.fault.Fault.{Fault}
use Rattle.types_spec.specs.declared.types.fault.Fault.TheVariants.{Mismatch, Conflict}
use Rattle.types_spec.specs.types.Fault.{IsBefore}
use Rattle.types_spec.specs.types.LeastFault.{IsLeastFault}
use Rattle.types_spec.specs.types.SearchedPaths.{Entry, IsEntered, IsSearched, AreConflicting, AreLeastConflicting}
use Rattle.types_spec.specs.types.Table.{Table, table_shapes}
use Rattle.types_spec.proofs.types.TypeAskedLemmas.{need_typed}
use Rattle.types_spec.specs.types.Typing.{field_at, IsListed, IsHeld, IsTyping, HasType}
use Rattle.types_table.specs.type_table.Made.{IsLawful}
use Rattle.types_theory.proofs.typing.SearchedLemmas.{before_transitive, never_before_itself}
use Rattle.types_theory.proofs.typing.TypingLeastLemmas.{conflict_is_least}
use Rattle.check_heap.specs.declared.check.visits.Visit.{Visit}
use Rattle.check_heap.specs.check.Conflict.{mutable_at, ConflictAt, NoneConflict, IsFirstConflict}
use Rattle.check_heap.specs.check.KnownVisits.{IsConflictOf}
use Rattle.check_heap.specs.check.Explored.{entry_fields, root_of, IsExplored}
use Rattle.check_heap.specs.check.Search.{pairs_of}
use Rattle.check_heap.specs.check.Verdict.{IsYes}
use Rattle.check_heap.specs.scan.Paths.{HasPath}
use Rattle.check_heap.proofs.check.ExploredLemmas.{AreInOrder}
use Rattle.check_heap.proofs.check.CheckVisitLemmas.{reports_of, visit_fits}
use Rattle.check_heap.proofs.check.SpentLemmas.{pairs_apart}

abbrev pair_of : Visit → ℕ × ℕ
pair_of v = (v.object, v.ty)

module _ (table : Table) (graph : List Obj) where
  -- If the path of an entry is smaller than the path of another, then the entry's index is smaller.
  position_before :
      (known : List (Entry ℕ)) (j k : ℕ) (a b : Entry ℕ) → AreInOrder table graph known → slice_get known j ≡ Some a → slice_get known k ≡ Some b
      → IsBefore a.path b.path → j < k
  position_before known j k a b order at_j at_k before = ⊎_elim
      (λ less. less)
      (λ others. ⊎_elim
      (λ same.
      let is : a ≡ b = same_Some a b (sym at_j ∙ ap (slice_get known) same ∙ at_k) in
      absurd (never_before_itself b.path (subst (λ e. IsBefore e.path b.path) is before)))
      (λ more. absurd (never_before_itself a.path (before_transitive a.path b.path a.path before (order k j b a more at_k at_j))))
      others)
      (less_same_more j k)

  module _ (all : List Visit) (n : ℕ) (x : IsExplored table graph all n 0) (enough : length all ≤ n) where
    abbrev known : List (Entry ℕ)
    known = x.known

    abbrev root : Val
    root = vals.Ref (root_of all)

    first : Entry ℕ
    first = record { path = []; object = root_of all; type = 0 }

    visit_of : (k : ℕ) (e : Entry ℕ) → slice_get x.known k ≡ Some e → (v : Visit) × (slice_get all k ≡ Some v) × (e.object ≡ v.object) × (e.type ≡ v.ty)
    visit_of k e at_k =
        let inside = slice_get_within x.known k e at_k in
        let v = slice_get_there all k (omega (arith, inside, x.are_known.many)) in
        (v.0, v.1, x.are_known.objects k v.0 e v.1 at_k, x.are_known.types k v.0 e v.1 at_k)

    pub all_searched : IsSearched (table_shapes table) graph (vals.Ref (root_of all)) 0 x.known (λ path. Unit {0})
    all_searched =
        let at_0 : Entry ℕ = record { path = []; object = root_of all; type = 0 } in
        record {
          down = λ path other seen not_after. tt;
          root_fits = x.explored.fit 0 at_0 x.explored.rooted;
          root_entered = (at_0, slice_get-Contains x.known 0 at_0 x.explored.rooted, refl, refl, never_before_itself []);
          leads = λ f among. let p = Contains-position x.known f among in x.explored.leads p.0 f p.1;
          tested = λ f l b w among need field seen.
              let p = Contains-position x.known f among in
              let typed = need_typed table graph (vals.Ref f.object) f.type l b need in
              let q = Contains-position (entry_fields table graph f) (l, b) typed.0 in
              let inside = slice_get_within x.known p.0 f p.1 in
              let met = x.explored.done p.0 q.0 l b f (inl (omega (arith, inside, enough, x.are_known.many))) p.1 q.1 typed.1 in
              let same : met.value ≡ w = same_Some met.value w (sym met.there ∙ field) in (
                subst (λ v. (table_shapes table).fits graph v b) same met.fits,
                subst (λ v. IsEntered (table_shapes table) x.known v b (f.path ++ l ∷ [])) same met.entered,
              );
        }

    -- ---- an aliasing conflict

    mutable_forth :
        (k : ℕ) (e : Entry ℕ) (v : Visit) (o : ℕ) → slice_get x.known k ≡ Some e → slice_get all k ≡ Some v → o ≡ e.object
        → IsTrue (mutable_at table graph v) → (table_shapes table).mutable graph o e.type
    mutable_forth k e v o at_e at_v is mutable =
        let object = x.are_known.objects k v e at_v at_e in
        let type = x.are_known.types k v e at_v at_e in
        subst (λ p. (table_shapes table).mutable graph p e.type) (sym (is ∙ object))
        (subst (λ t. (table_shapes table).mutable graph v.object t) (sym type) (visit_fits table graph all n 0 k v x at_v, mutable))

    mutable_back :
        (k : ℕ) (e : Entry ℕ) (v : Visit) (o : ℕ) → slice_get x.known k ≡ Some e → slice_get all k ≡ Some v → o ≡ e.object
        → (table_shapes table).mutable graph o e.type → IsTrue (mutable_at table graph v)
    mutable_back k e v o at_e at_v is mutable =
        let object = x.are_known.objects k v e at_v at_e in
        let type = x.are_known.types k v e at_v at_e in
        (subst (λ t. (table_shapes table).mutable graph v.object t) type
        (subst (λ p. (table_shapes table).mutable graph p e.type) (is ∙ object) mutable)).1

    -- If entries conflict, then the visits with their indices conflict.
    conflict_back : (j k : ℕ) (a b : Entry ℕ) → slice_get x.known j ≡ Some a → slice_get x.known k ≡ Some b → AreConflicting (table_shapes table) graph x.known a b → ConflictAt table graph all j k
    conflict_back j k a b at_j at_k c =
        let v = visit_of j a at_j in
        let w = visit_of k b at_k in
        record {
          one = v.0;
          other = w.0;
          at_first = v.1;
          at_second = w.1;
          before = position_before x.known j k a b x.explored.increasing at_j at_k c.before;
          same = sym v.2 ∙ c.same ∙ w.2;
          mutable = ⊎_elim
              (λ one. inl (mutable_back j a v.0 a.object at_j v.1 refl one))
              (λ other. inr (mutable_back k b w.0 a.object at_k w.1 c.same other))
              c.mutable;
        }

    conflict_forth : (j k : ℕ) (a b : Entry ℕ) → slice_get x.known j ≡ Some a → slice_get x.known k ≡ Some b → ConflictAt table graph all j k → AreConflicting (table_shapes table) graph x.known a b
    conflict_forth j k a b at_j at_k c =
        let same : a.object ≡ b.object =
        x.are_known.objects j c.one a c.at_first at_j ∙ c.same ∙ sym (x.are_known.objects k c.other b c.at_second at_k) in
        let before = c.before in
        record {
          first = slice_get-Contains x.known j a at_j;
          second = slice_get-Contains x.known k b at_k;
          same = same;
          before = x.explored.increasing j k a b c.before at_j at_k;
          unequal = λ equal. let one : j ≡ k = x.explored.apart j k a b at_j at_k same equal in omega (arith, before, one);
          mutable = ⊎_elim
              (λ one. inl (mutable_forth j a c.one a.object at_j c.at_first refl one))
              (λ other. inr (mutable_forth k b c.other a.object at_k c.at_second same other))
              c.mutable;
        }

    least_conflicting :
        (i k : ℕ) (one other : Entry ℕ) → slice_get x.known i ≡ Some one → slice_get x.known k ≡ Some other → IsFirstConflict table graph all i k
        → AreLeastConflicting (table_shapes table) graph x.known one other
    least_conflicting i k one other at_i at_k is = record {
      conflicting = conflict_forth i k one other at_i at_k is.conflict;
      least = λ a b c earliest.
          let p = Contains-position x.known a c.first in
          let q = Contains-position x.known b c.second in
          let conflict = conflict_back p.0 q.0 a b p.1 q.1 c in
          ⊎_elim
          (λ before. is.second p.0 q.0 (position_before x.known q.0 k b other x.explored.increasing q.1 at_k before) conflict)
          (λ known_before. ⊎_elim
          (λ less. is.second p.0 q.0 less conflict)
          (λ others. ⊎_elim
          (λ same. is.first p.0 (position_before x.known p.0 i a one x.explored.increasing p.1 at_i known_before.1) (subst (ConflictAt table graph all p.0) same conflict))
          (λ more. never_before_itself other.path (subst (λ path. IsBefore other.path path) known_before.0 (x.explored.increasing k q.0 other b more at_k q.1)))
          others)
          (less_same_more q.0 k))
          earliest;
    }

    pub conflict_found :
        IsLawful table → (i k : ℕ) (fault : Fault) → IsFirstConflict table graph all i k → IsConflictOf all i k fault
        → IsLeastFault (table_shapes table) graph (vals.Ref (root_of all)) 0 fault
    conflict_found lawful i k (Mismatch path) is paths = absurd paths
    conflict_found lawful i k (Conflict first second) is paths =
        let one = reports_of table graph all x.known i is.conflict.one x.are_known is.conflict.at_first in
        let other = reports_of table graph all x.known k is.conflict.other x.are_known is.conflict.at_second in
        let least = conflict_is_least (table_shapes table) lawful.lawful graph (vals.Ref (root_of all)) 0 x.known all_searched one.entry other.entry
        (least_conflicting i k one.entry other.entry one.at other.at is) in
        let first_is = paths.0 x.known one.entry x.are_known one.at in
        let second_is = paths.1 x.known other.entry x.are_known other.at in
        subst (λ p. IsLeastFault (table_shapes table) graph (vals.Ref (root_of all)) 0 (Conflict p second)) (sym first_is)
        (subst (λ q. IsLeastFault (table_shapes table) graph (vals.Ref (root_of all)) 0 (Conflict one.entry.path q)) (sym second_is) least)

    -- ---- a typing

    pair_is_there : (k : ℕ) (v : Visit) → slice_get all k ≡ Some v → Contains (pairs_of all) (v.object, v.ty)
    pair_is_there k v at_k = Contains-map pair_of all v (slice_get-Contains all k v at_k)

    record IsPairOf (o t : ℕ) : Type 0 where
      position : ℕ
      visit : Visit
      at : slice_get all position ≡ Some visit
      object : visit.object ≡ o
      type : visit.ty ≡ t

    pair_is_of : (o t : ℕ) → Contains (pairs_of all) (o, t) → IsPairOf o t
    pair_is_of o t among =
        let v = map-Contains pair_of all (o, t) among in
        let k = Contains-position all v.0 v.1 in
        record {
          position = k.0;
          visit = v.0;
          at = k.1;
          object = ap (λ (p : ℕ × ℕ). p.0) v.2;
          type = ap (λ (p : ℕ × ℕ). p.1) v.2;
        }

    listed_of : (w : Val) (t : ℕ) (path : List ℕ) → IsEntered (table_shapes table) x.known w t path → IsListed (table_shapes table) (pairs_of all) w t
    listed_of (vals.Int z) t path entered = tt
    listed_of (vals.Atom tag) t path entered = tt
    listed_of (vals.Ref o) t path entered =
        let k = Contains-position x.known entered.0 entered.1 in
        let v = visit_of k.0 entered.0 k.1 in
        let pair = pair_is_there k.0 v.0 v.1 in (
          v.0.ty,
          subst (λ p. Contains (pairs_of all) (p, v.0.ty)) (sym v.2 ∙ entered.2) pair,
          sym (entered.3 ∙ ap (slice_get table.classes) v.3),
        )

    held_of :
        (k : ℕ) (v : Visit) (i u : ℕ) → slice_get all k ≡ Some v → Contains ((table_shapes table).needs graph (vals.Ref v.object) v.ty) (i, u)
        → IsSomeAnd (field_at graph v.object i) (λ w. IsHeld (table_shapes table) graph (pairs_of all) w u)
    held_of k v i u at_k need =
        let t = reports_of table graph all x.known k v x.are_known at_k in
        let need' = subst (λ a. Contains ((table_shapes table).needs graph (vals.Ref t.entry.object) a) (i, u)) (sym t.type)
        (subst (λ o. Contains ((table_shapes table).needs graph (vals.Ref o) v.ty) (i, u)) (sym t.object) need) in
        let typed = need_typed table graph (vals.Ref t.entry.object) t.entry.type i u need' in
        let j = Contains-position (entry_fields table graph t.entry) (i, u) typed.0 in
        let inside = slice_get_within all k v at_k in
        let met = x.explored.done k j.0 i u t.entry (inl (omega (arith, inside, enough))) t.at j.1 typed.1 in
        let field = subst (λ o. field_at graph o i ≡ Some met.value) t.object met.there in
        subst (λ f. IsSomeAnd f (λ w. IsHeld (table_shapes table) graph (pairs_of all) w u)) (sym field)
        (record { fits = met.fits; listed = listed_of met.value u (t.entry.path ++ i ∷ []) met.entered })

    one_class :
        NoneConflict table graph all n → (j k : ℕ) (v w : Visit) → slice_get all j ≡ Some v → slice_get all k ≡ Some w → v.object ≡ w.object
        → IsTrue (mutable_at table graph v) → slice_get table.classes v.ty ≡ slice_get table.classes w.ty
    one_class none j k v w at_j at_k same mutable = ⊎_elim
        (λ less. absurd (none j k (let inside = slice_get_within all k w at_k in omega (arith, inside, enough)) (record {
          one = v;
          other = w;
          at_first = at_j;
          at_second = at_k;
          before = less;
          same = same;
          mutable = inl mutable;
        })))
        (λ others. ⊎_elim
        (λ equal. ap (λ (u : Visit). slice_get table.classes u.ty) (same_Some v w (sym at_j ∙ ap (slice_get all) equal ∙ at_k)))
        (λ more. absurd (none k j (let inside = slice_get_within all j v at_j in omega (arith, inside, enough)) (record {
          one = w;
          other = v;
          at_first = at_k;
          at_second = at_j;
          before = more;
          same = sym same;
          mutable = inr mutable;
        })))
        others)
        (less_same_more j k)

    typing_found : NoneConflict table graph all n → IsTyping (table_shapes table) graph (pairs_of all)
    typing_found none = record {
      fits = λ o t among.
          let p = pair_is_of o t among in
          subst (λ a. (table_shapes table).fits graph (vals.Ref o) a) p.type
          (subst (λ q. (table_shapes table).fits graph (vals.Ref q) p.visit.ty) p.object (visit_fits table graph all n 0 p.position p.visit x p.at));
      held = λ o t i u among need.
          let p = pair_is_of o t among in
          let need' = subst (λ q. Contains ((table_shapes table).needs graph (vals.Ref q) p.visit.ty) (i, u)) (sym p.object)
          (subst (λ a. Contains ((table_shapes table).needs graph (vals.Ref o) a) (i, u)) (sym p.type) need) in
          subst (λ q. IsSomeAnd (field_at graph q i) (λ w. IsHeld (table_shapes table) graph (pairs_of all) w u)) p.object
          (held_of p.position p.visit i u p.at need');
      one_type = λ o t u among other mutable.
          let p = pair_is_of o t among in
          let q = pair_is_of o u other in
          let e = reports_of table graph all x.known p.position p.visit x.are_known p.at in
          let own = mutable_back p.position e.entry p.visit o e.at p.at (sym (e.object ∙ p.object))
          (subst (λ a. (table_shapes table).mutable graph o a) (sym (e.type ∙ p.type)) mutable) in
          ap (slice_get table.classes) (sym p.type) ∙ one_class none p.position q.position p.visit q.visit p.at q.at (p.object ∙ sym q.object) own
          ∙ ap (slice_get table.classes) q.type;
    }

    pub yes_found :
        NoneConflict table graph all n
        → HasType (table_shapes table) graph (vals.Ref (root_of all)) 0 × IsYes table graph (vals.Ref (root_of all)) (pairs_of all)
    yes_found none =
        let at_0 : Entry ℕ = record { path = []; object = root_of all; type = 0 } in
        let v = visit_of 0 at_0 x.explored.rooted in
        let pair = subst (λ t. Contains (pairs_of all) (root_of all, t)) (sym v.3)
        (subst (λ o. Contains (pairs_of all) (o, v.0.ty)) (sym v.2) (pair_is_there 0 v.0 v.1)) in
        let typing = typing_found none in (
          record { fits = x.explored.fit 0 at_0 x.explored.rooted; typed = (pairs_of all, typing, pair) },
          record { typing = typing; rooted = (0, pair, refl); apart = pairs_apart table graph all n 0 x },
        )

    -- ---- paths

    pub paths_found : (o t : ℕ) → Contains (pairs_of all) (o, t) → HasPath table graph (vals.Ref (root_of all)) o t
    paths_found o t among =
        let p = pair_is_of o t among in
        let e = reports_of table graph all x.known p.position p.visit x.are_known p.at in (
          e.entry.path,
          x.explored.leads p.position e.entry e.at ∙ ap (λ q. Some (vals.Ref q, e.entry.type)) (e.object ∙ p.object) ∙ ap (λ a. Some (vals.Ref o, a)) (e.type ∙ p.type),
        )
