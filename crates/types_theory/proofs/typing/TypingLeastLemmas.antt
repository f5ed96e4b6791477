-- The mismatch at which a search ends is the least fault. If the search has covered all paths, the
-- least aliasing conflict among the search's entries is the least fault.
use Rattle.std.proofs.Common.{ℕ, ◌≡◌, ◌∙◌, ◌⊎◌, ⊎_elim, inl, inr, List, Some, sym, ap, subst}
use Rattle.std.specs.Prelude.{Contains}
use Rattle.std.proofs.lemmas.Option.{same_Some}
use Rattle.base_data.specs.declared.model.value.Val.{Val}
use Rattle.base_data.specs.declared.model.value.Val.TheVariants as vals
use Rattle.base_data.specs.declared.model.value.Obj.{Obj}
use Rattle.types_spec.specs.declared.types.fault.Fault.{Fault}
use Rattle.types_spec.specs.declared.types.fault.Fault.TheVariants.{Mismatch, Conflict}
use Rattle.types_spec.specs.types.Shapes.{Shapes}
use Rattle.types_spec.specs.types.LawfulShapes.{Everything, AreLawful}
use Rattle.types_spec.specs.types.Fault.{IsBefore, value_at, IsMismatch, IsConflict, IsFault}
use Rattle.types_spec.specs.types.LeastFault.{IsKnownBefore, IsLeastFault}
use Rattle.types_spec.specs.types.SearchedPaths.{Entry, IsEntered, IsSearched, AreConflicting, AreLeastConflicting}
use Rattle.base_data.proofs.model.Options.{IsSomeAnd-some}
use Rattle.types_theory.proofs.typing.TypingPathLemmas.{paths_compare}
use Rattle.types_theory.proofs.typing.SearchedLemmas.{seen_is_known, before_transitive}

-- If no mismatch is before a given mismatch, then the given mismatch is the least fault.
pub least_mismatch : {T : Type 0} (shapes : Shapes T) (graph : List Obj) (root : Val) (t : T)
    (path : List ℕ) → IsMismatch shapes graph root t path
    → ((other : List ℕ) → IsMismatch shapes graph root t other → IsBefore other path → ⊥)
    → IsLeastFault shapes graph root t (Mismatch path)
least_mismatch shapes graph root t path mismatch first =
    record { is_fault = mismatch; least = none } where
      none : (other : Fault) → IsFault shapes graph root t other → IsKnownBefore other (Mismatch path)
          → ⊥
      none (Mismatch other) is reported = first other is reported
      none (Conflict one two) is reported = reported

module _ {T : Type 0} (shapes : Shapes T) (lawful : AreLawful shapes Everything) (graph : List Obj)
    (root : Val) (t : T) (entries : List (Entry T)) where
  -- If a search has covered all paths before a mismatch, then the mismatch is the least fault.
  pub mismatch_is_least :
      (path : List ℕ) → IsSearched shapes graph root t entries (λ other. IsBefore other path)
      → IsMismatch shapes graph root t path → IsLeastFault shapes graph root t (Mismatch path)
  mismatch_is_least path searched mismatch = least_mismatch shapes graph root t path mismatch no_mismatch where
    no_mismatch : (other : List ℕ) → IsMismatch shapes graph root t other → IsBefore other path → ⊥
    no_mismatch other is before =
        let found = IsSomeAnd-some (value_at shapes graph root t other)
        (λ position. shapes.fits graph position.0 position.1 → ⊥) is in
        found.2 (seen_is_known shapes lawful graph root t entries (λ o. IsBefore o path) searched
        other found.0.0 found.0.1 before found.1).0

  module _ (searched : IsSearched shapes graph root t entries (λ path. Unit {0})) where
    Known : List ℕ → ℕ → T → Type 0
    Known path o u = IsEntered shapes entries (vals.Ref o) u path

    no_mismatch : (path : List ℕ) → IsMismatch shapes graph root t path → ⊥
    no_mismatch path is =
        let found = IsSomeAnd-some (value_at shapes graph root t path)
        (λ position. shapes.fits graph position.0 position.1 → ⊥) is in
        found.2 (seen_is_known shapes lawful graph root t entries (λ o. Unit {0}) searched path
        found.0.0 found.0.1 tt found.1).0

    entry_of : (path : List ℕ) (o : ℕ) (u : T) → value_at shapes graph root t path ≡ Some
        (vals.Ref o, u) → IsEntered shapes entries (vals.Ref o) u path
    entry_of path o u found =
        (seen_is_known shapes lawful graph root t entries (λ p. Unit {0}) searched path (vals.Ref o)
        u tt found).1

    mutable_at : (p o : ℕ) (u s : T) → p ≡ o → shapes.equal u s → shapes.mutable graph o u
        → shapes.mutable graph p s
    mutable_at p o u s same equal mutable =
        subst (λ q. shapes.mutable graph q s) (sym same) (lawful.mutable graph o u s (inl tt) equal
        mutable)

    is_conflict : (one other : Entry T) → AreConflicting shapes graph entries one other
        → IsConflict shapes graph root t one.path other.path
    is_conflict one other c = record {
      object = one.object;
      one = one.type;
      other = other.type;
      before = c.before;
      at_first = searched.leads one c.first;
      at_second = searched.leads other c.second ∙ ap (λ o. Some (vals.Ref o, other.type))
          (sym c.same);
      unequal = c.unequal;
      mutable = c.mutable;
    }

    -- If two entries have unequal types, then the path of one entry is before the path of the other
    -- entry.
    ordered : (a b : Entry T) → Contains entries a → Contains entries b
        → (shapes.equal a.type b.type → ⊥) → IsBefore a.path b.path ⊎ IsBefore b.path a.path
    ordered a b among among' unequal = ⊎_elim
        (λ before. inl before)
        (λ others. ⊎_elim (λ same. absurd (unequal (same_type same))) (λ after. inr after) others)
        (paths_compare a.path b.path) where
          same_type : a.path ≡ b.path → shapes.equal a.type b.type
          same_type same =
              let position = same_Some (vals.Ref a.object, a.type) (vals.Ref b.object, b.type)
              (sym (searched.leads a among) ∙ ap (value_at shapes graph root t) same
              ∙ searched.leads b among') in
              subst (λ u. shapes.equal a.type u) (ap (λ (p : Val × T). p.1) position)
              (lawful.reflexive a.type tt)

    -- For each aliasing conflict, two conflicting entries have paths that are not after the paths
    -- of the aliasing conflict.
    pub record HasConflicting (first second : List ℕ) : Type 0 where
      pub a : Entry T
      pub b : Entry T
      pub conflicting : AreConflicting shapes graph entries a b
      pub last : IsBefore second b.path → ⊥
      pub both : b.path ≡ second → IsBefore first a.path → ⊥

    conflicting_of : (first second : List ℕ) → IsConflict shapes graph root t first second
        → HasConflicting first second
    conflicting_of first second c = by_order (ordered e.0 f.0 e.1 f.1 unequal) where
      e : IsEntered shapes entries (vals.Ref c.object) c.one first
      e = entry_of first c.object c.one c.at_first

      f : IsEntered shapes entries (vals.Ref c.object) c.other second
      f = entry_of second c.object c.other c.at_second

      unequal : shapes.equal e.0.type f.0.type → ⊥
      unequal same = c.unequal (lawful.transitive c.one e.0.type c.other e.3
          (lawful.transitive e.0.type f.0.type c.other same (lawful.symmetric c.other f.0.type
          f.3)))

      one_object : e.0.object ≡ f.0.object
      one_object = e.2 ∙ sym f.2

      mutable_first : shapes.mutable graph e.0.object e.0.type ⊎ shapes.mutable graph e.0.object
          f.0.type
      mutable_first = ⊎_elim
          (λ m. inl (mutable_at e.0.object c.object c.one e.0.type e.2 e.3 m))
          (λ m. inr (mutable_at e.0.object c.object c.other f.0.type e.2 f.3 m))
          c.mutable

      mutable_second :
          shapes.mutable graph f.0.object f.0.type ⊎ shapes.mutable graph f.0.object e.0.type
      mutable_second = ⊎_elim
          (λ m. inr (mutable_at f.0.object c.object c.one e.0.type f.2 e.3 m))
          (λ m. inl (mutable_at f.0.object c.object c.other f.0.type f.2 f.3 m))
          c.mutable

      by_order : IsBefore e.0.path f.0.path ⊎ IsBefore f.0.path e.0.path → HasConflicting first second
      by_order (inl before) = record {
        a = e.0;
        b = f.0;
        conflicting = record {
          first = e.1;
          second = f.1;
          same = one_object;
          before = before;
          unequal = unequal;
          mutable = mutable_first;
        };
        last = f.4;
        both = λ same. e.4;
      }
      by_order (inr after) = record {
        a = f.0;
        b = e.0;
        conflicting = record {
          first = f.1;
          second = e.1;
          same = sym one_object;
          before = after;
          unequal = λ same. unequal (lawful.symmetric f.0.type e.0.type same);
          mutable =
              mutable_second;
        };
        last = λ later. e.4 (before_transitive first second e.0.path c.before later);
        both = λ same. absurd (e.4 (subst (λ p. IsBefore first p) (sym same) c.before));
      }

    -- If the search has covered all paths, then the least aliasing conflict among the entries is
    -- the least fault.
    pub conflict_is_least :
        (one other : Entry T) → AreLeastConflicting shapes graph entries one other
        → IsLeastFault shapes graph root t (Conflict one.path other.path)
    conflict_is_least one other least =
        record { is_fault = is_conflict one other least.conflicting; least = none } where
          never_before : (first second : List ℕ) → HasConflicting first second → IsBefore second other.path
              ⊎ ((second ≡ other.path) × IsBefore first one.path) → ⊥
          never_before first second h (inl before) = ⊎_elim
              (λ earlier. least.least h.a h.b h.conflicting
              (inl (before_transitive h.b.path second other.path earlier before)))
              (λ others. ⊎_elim
              (λ same. least.least h.a h.b h.conflicting
              (inl (subst (λ p. IsBefore p other.path) (sym same) before)))
              (λ later. h.last later)
              others)
              (paths_compare h.b.path second)
          never_before first second h (inr reported) = ⊎_elim
              (λ earlier. least.least h.a h.b h.conflicting
              (inl (subst (λ p. IsBefore h.b.path p) reported.0 earlier)))
              (λ others. ⊎_elim
              (λ same. ⊎_elim
              (λ earlier. least.least h.a h.b h.conflicting
              (inr (same ∙ reported.0, before_transitive h.a.path first one.path earlier reported.1)))
              (λ more. ⊎_elim
              (λ equal. least.least h.a h.b h.conflicting
              (inr (same ∙ reported.0, subst (λ p. IsBefore p one.path) (sym equal) reported.1)))
              (λ later. h.both same later)
              more)
              (paths_compare h.a.path first))
              (λ later. h.last later)
              others)
              (paths_compare h.b.path second)

          none : (fault : Fault) → IsFault shapes graph root t fault
              → IsKnownBefore fault (Conflict one.path other.path) → ⊥
          none (Mismatch path) is reported = no_mismatch path is
          none (Conflict first second) is reported =
              never_before first second (conflicting_of first second is) reported
