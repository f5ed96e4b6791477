-- The records about the visited objects, while visits are added.
use Rattle.std.proofs.Common.{ℕ, zero, suc, ◌<◌, ◌≡◌, ◌∙◌, ◌⊎◌, inl, inr, ⊎_elim, List, [], ◌∷◌, ◌++◌, length, Option, Some, refl, sym, ap, subst, arith}
use Rattle.std.specs.Prelude.{All, slice_get, slice_set, replicate}
use Rattle.std.proofs.lemmas.List.Elements.{All-contains}
use Rattle.std.proofs.lemmas.Option.{same_Some, none-some, slice_get_within}
use Rattle.base_data.proofs.model.Options.{same_or_not, slice_get-Contains}
use Rattle.base_data.proofs.model.Lists.{slice_get-append_left, slice_get-last}
use Rattle.types_spec.specs.types.Table.{Table}
use Rattle.check_heap.specs.declared.check.visits.Visit.{Visit}
use Rattle.check_heap.specs.declared.check.visits.Visits.{Visits}
use Rattle.check_heap.specs.check.Visits.{listed, IsMet, IsFirstAt, IsAppended, AreNoted, AreLinked}
use Rattle.check_heap.specs.declared.scan.classed.Classed.{Classed}
use Rattle.check_heap.specs.scan.Classed.{Has, IsUntouched, Inserts}
use Rattle.check_heap.proofs.scan.ScanPositionLemmas.{slice_get-append_below, slice_get-push_cases, slice_set_here, slice_set_other}
use Rattle.check_heap.proofs.scan.ClassedLemmas.{untouched_none}

-- ---- lists

slice_get-zeros : (n k x : ℕ) → slice_get (replicate n 0) k ≡ Some x → x ≡ 0
slice_get-zeros zero k x at_k = absurd (none-some x at_k)
slice_get-zeros (suc n) zero x at_k = sym (same_Some 0 x at_k)
slice_get-zeros (suc n) (suc k) x at_k = slice_get-zeros n k x at_k

-- ---- the start

module _ (table : Table) where
  pub noted_none : (n : ℕ) (later : ℕ → ℕ → Type 0) → ((o c : ℕ) → ¬ later o c) → AreNoted table [] (replicate n 0) later
  noted_none n later none = record {
    unmet = λ o k v at_o at_k. absurd (none-some v at_k);
    met = λ o t at_o. let is = slice_get-zeros n o (suc t) at_o in absurd (omega (arith, is));
    known = λ o t k c v at_o at_k. absurd (none-some v at_k);
    there = λ o c is. absurd (none o c is);
  }

module _ (table : Table) (all : List Visit) (first : List ℕ) (later : ℕ → ℕ → Type 0) (noted : AreNoted table all first later) where
  -- ---- visited objects

  pub met_never : (o : ℕ) (class : Option ℕ) → slice_get first o ≡ Some 0 → ¬ IsMet table all o class
  met_never o class at_o met = noted.unmet o met.0 met.1 at_o met.2 met.3

  pub met_first : (o t : ℕ) → slice_get first o ≡ Some (suc t) → IsMet table all o (slice_get table.classes t)
  met_first o t at_o =
      let f = noted.met o t at_o in (f.position, f.visit, f.at, f.object, ap (slice_get table.classes) f.type)

  pub met_nowhere :
      (o t c : ℕ) → slice_get first o ≡ Some (suc t) → ¬ (slice_get table.classes t ≡ Some c) → ¬ later o c
      → ¬ IsMet table all o (Some c)
  met_nowhere o t c at_o other unknown met = ⊎_elim other unknown (noted.known o t met.0 c met.1 at_o met.2 met.3 met.4)

  -- ---- one more visit

  module _ (v : Visit) where
    more : List Visit
    more = all ++ v ∷ []

    still_first : (o t : ℕ) → IsFirstAt all o t → IsFirstAt (all ++ v ∷ []) o t
    still_first o t f =
        let inside = slice_get_within all f.position f.visit f.at in
        record {
          position = f.position;
          visit = f.visit;
          at = slice_get-append_left all (v ∷ []) f.position f.visit f.at;
          object = f.object;
          type = f.type;
          none = λ j w less at_j. f.none j w less (slice_get-append_below all (v ∷ []) j w (omega (arith, inside, less)) at_j);
        }

    still_met : (o : ℕ) (class : Option ℕ) → IsMet table all o class → IsMet table (all ++ v ∷ []) o class
    still_met o class met = (met.0, met.1, slice_get-append_left all (v ∷ []) met.0 met.1 met.2, met.3, met.4)

    -- If an object is visited for the first time, then the records stay correct.
    pub noted_first :
        slice_get first v.object ≡ Some 0 → AreNoted table (all ++ v ∷ []) (slice_set first v.object (suc v.ty)) later
    noted_first at_o = record {
      unmet = λ o k w at at_k is. ⊎_elim
          (λ same. let e = slice_set_here first v.object 0 (suc v.ty) (subst (λ p. slice_get (slice_set first v.object (suc v.ty)) p ≡ Some 0) same at) in absurd (omega (arith, e)))
          (λ other. ⊎_elim
          (λ here. noted.unmet o k w (sym (slice_set_other first v.object o (suc v.ty) other) ∙ at) here is)
          (λ last. other (sym is ∙ ap (λ (u : Visit). u.object) (sym last.1)))
          (slice_get-push_cases all v k w at_k))
          (same_or_not o v.object);
      met = λ o t at. ⊎_elim
          (λ same. own o t same (slice_set_here first v.object (suc t) (suc v.ty) (subst (λ p. slice_get (slice_set first v.object (suc v.ty)) p ≡ Some (suc t)) same at)))
          (λ other. still_first o t (noted.met o t (sym (slice_set_other first v.object o (suc v.ty) other) ∙ at)))
          (same_or_not o v.object);
      known = λ o t k c w at at_k is class. ⊎_elim
          (λ same.
          let e = slice_set_here first v.object (suc t) (suc v.ty) (subst (λ p. slice_get (slice_set first v.object (suc v.ty)) p ≡ Some (suc t)) same at) in
          ⊎_elim
          (λ here. absurd (noted.unmet v.object k w at_o here (is ∙ same)))
          (λ last.
          let ty : w.ty ≡ t = sym (ap (λ (u : Visit). u.ty) last.1) ∙ same_number e in
          inl (subst (λ i. slice_get table.classes i ≡ Some c) ty class))
          (slice_get-push_cases all v k w at_k))
          (λ other. ⊎_elim
          (λ here. noted.known o t k c w (sym (slice_set_other first v.object o (suc v.ty) other) ∙ at) here is class)
          (λ last. absurd (other (sym is ∙ ap (λ (u : Visit). u.object) (sym last.1))))
          (slice_get-push_cases all v k w at_k))
          (same_or_not o v.object);
      there = λ o c is. still_met o (Some c) (noted.there o c is);
    } where
      same_number : {t : ℕ} → suc t ≡ suc v.ty → v.ty ≡ t
      same_number e = omega (arith, e)

      own : (o t : ℕ) → o ≡ v.object → suc t ≡ suc v.ty → IsFirstAt (all ++ v ∷ []) o t
      own o t same e = record {
        position = length all;
        visit = v;
        at = slice_get-last all v;
        object = sym same;
        type = omega (arith, e);
        none = λ j w less at_j is. noted.unmet v.object j w at_o (slice_get-append_below all (v ∷ []) j w less at_j) (is ∙ same);
      }

    -- If a visited object is visited at a new class, then the records stay correct.
    pub noted_later :
        (t c : ℕ) (later' : ℕ → ℕ → Type 0) → slice_get first v.object ≡ Some (suc t) → slice_get table.classes v.ty ≡ Some c
        → ((p d : ℕ) → later' p d → later p d ⊎ ((v.object ≡ p) × (c ≡ d))) → ((p d : ℕ) → later p d → later' p d) → later' v.object c
        → AreNoted table (all ++ v ∷ []) first later'
    noted_later t c later' at_o class before kept new = record {
      unmet = λ o k w at at_k is. ⊎_elim
          (λ here. noted.unmet o k w at here is)
          (λ last.
          let same : v.object ≡ o = ap (λ (u : Visit). u.object) last.1 ∙ is in
          let e = same_Some 0 (suc t) (sym at ∙ ap (slice_get first) (sym same) ∙ at_o) in absurd (omega (arith, e)))
          (slice_get-push_cases all v k w at_k);
      met = λ o u at. still_first o u (noted.met o u at);
      known = λ o u k d w at at_k is at_class. ⊎_elim
          (λ here. ⊎_elim (λ same. inl same) (λ known. inr (kept o d known)) (noted.known o u k d w at here is at_class))
          (λ last.
          let same : v.object ≡ o = ap (λ (x : Visit). x.object) last.1 ∙ is in
          let e : c ≡ d = same_Some c d (sym class ∙ ap (λ (x : Visit). slice_get table.classes x.ty) last.1 ∙ at_class) in
          inr (subst (λ p. later' p d) same (subst (λ b. later' v.object b) e new)))
          (slice_get-push_cases all v k w at_k);
      there = λ o d is. ⊎_elim
          (λ known. still_met o (Some d) (noted.there o d known))
          (λ own. (length all, v, slice_get-last all v, own.0, class ∙ ap (λ b. Some b) own.1))
          (before o d is);
    }

-- ---- the whole record

length-set : (xs : List ℕ) (k x : ℕ) → length (slice_set xs k x) ≡ length xs
length-set [] k x = refl
length-set (y ∷ xs) zero x = refl
length-set (y ∷ xs) (suc k) x = ap suc (length-set xs k x)

module _ (table : Table) (objects : ℕ) (old new : Visits) (o t p s : ℕ) (linked : AreLinked table objects old)
    (appended : IsAppended (listed old) (listed new) o t p s) where
  pub linked_first :
      slice_get old.first o ≡ Some 0 → new.first ≡ slice_set old.first o (suc t) → new.later ≡ old.later → AreLinked table objects new
  linked_first at_o first later =
      let v : Visit = record { object = o; ty = t; parent = p; step = s } in
      let noted = noted_first table (listed old) old.first (Has old.later) linked.noted v at_o in
      record {
        many = ap length first ∙ length-set old.first o (suc t) ∙ linked.many;
        noted = subst (λ set. AreNoted table (listed new) new.first (Has set)) (sym later)
            (subst (λ cells. AreNoted table (listed new) cells (Has old.later)) (sym first)
            (subst (λ all. AreNoted table all (slice_set old.first o (suc t)) (Has old.later)) (sym appended) noted));
      }

  pub linked_later :
      (n c : ℕ) → slice_get old.first o ≡ Some (suc n) → slice_get table.classes t ≡ Some c → new.first ≡ old.first
      → Inserts old.later new.later o c → AreLinked table objects new
  linked_later n c at_o class first inserts =
      let v : Visit = record { object = o; ty = t; parent = p; step = s } in
      let noted = noted_later table (listed old) old.first (Has old.later) linked.noted v n c (Has new.later) at_o class
      inserts.only inserts.kept inserts.here in
      record {
        many = ap length first ∙ linked.many;
        noted = subst (λ cells. AreNoted table (listed new) cells (Has new.later)) (sym first)
            (subst (λ all. AreNoted table all old.first (Has new.later)) (sym appended) noted);
      }

-- Case: the class is known for the object, and no visit is added.
pub linked_known :
    (table : Table) (objects : ℕ) (visits : Visits) (later : Classed) (o c : ℕ) → AreLinked table objects visits → Has visits.later o c
    → Inserts visits.later later o c → AreLinked table objects (record { all = visits.all; first = visits.first; later = later })
linked_known table objects visits later o c linked has inserts = record {
  many = linked.many;
  noted = record {
    unmet = linked.noted.unmet;
    met = linked.noted.met;
    known = λ p t k d v at_p at_k is class. ⊎_elim
        (λ same. inl same)
        (λ known. inr (inserts.kept p d known))
        (linked.noted.known p t k d v at_p at_k is class);
    there = λ p d is. ⊎_elim
        (linked.noted.there p d)
        (λ own. linked.noted.there p d (subst (λ q. Has visits.later q d) own.0 (subst (Has visits.later o) own.1 has)))
        (inserts.only p d is);
  };
}

-- The type of an object's first visit is a type of a visit.
pub first_classed :
    (table : Table) (objects : ℕ) (visits : Visits) (o t : ℕ) → AreLinked table objects visits
    → All (λ (visit : Visit). visit.ty < length table.classes) (listed visits) → slice_get visits.first o ≡ Some (suc t)
    → t < length table.classes
first_classed table objects visits o t linked types at_o =
    let f = linked.noted.met o t at_o in
    subst (λ i. i < length table.classes) f.type
    (All-contains (λ (visit : Visit). visit.ty < length table.classes) (listed visits) f.visit types (slice_get-Contains (listed visits) f.position f.visit f.at))

pub linked_none :
    (table : Table) (objects n : ℕ) (visits : Visits) → visits.all ≡ []
    → length visits.first ≡ objects → visits.first ≡ replicate n 0 → IsUntouched visits.later → AreLinked table objects visits
linked_none table objects n visits empty many zeros none = record {
  many = many;
  noted = subst (λ all. AreNoted table all visits.first (Has visits.later)) (sym empty)
      (subst (λ cells. AreNoted table [] cells (Has visits.later)) (sym zeros) (noted_none table n (Has visits.later) unknown));
} where
  unknown : (o c : ℕ) → ¬ Has visits.later o c
  unknown = untouched_none visits.later none
