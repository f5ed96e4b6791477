-- If two lists of pairs have the same objects at equal types, and one list is accepted, then the
-- other list is accepted. If pairs are accepted for a value, then the value has the type.
use Rattle.std.proofs.Common.{ℕ, ◌≡◌, ⊎_elim, inl, List, ◌∷◌, Some, subst}
use Rattle.base_data.proofs.model.Options.{Contains-first, Contains-later, Contains-cases, IsSomeAnd-weaker}
use Rattle.base_data.specs.declared.model.value.Val.{Val}
use Rattle.base_data.specs.declared.model.value.Val.TheVariants as vals
use Rattle.base_data.specs.declared.model.value.Obj.{Obj}
use Rattle.types_spec.specs.types.Shapes.{Shapes}
use Rattle.types_spec.specs.types.LawfulShapes.{AreLawful, Everything}
use Rattle.types_spec.specs.types.Fault.{value_at}
use Rattle.types_spec.specs.types.Typing.{field_at, IsListed, IsHeld, IsTyping, HasType}
use Rattle.types_spec.proofs.types.TypeFaultLemmas.{position_is_held}
use Rattle.cert_verify.specs.certificate.AcceptedEntry.{AreAccepted}
use Rattle.cert_verify.specs.certificate.Normal.{AreTheSame}

module _ {T : Type 0} (shapes : Shapes T) (lawful : AreLawful shapes Everything) (graph : List Obj) where
  module _ (pairs others : List (ℕ × T)) (same : AreTheSame shapes pairs others) where
    -- If a list of pairs holds a value, then the other list holds the value at each equal type.
    held_by_others : (v : Val) (t u : T) → shapes.equal t u → IsHeld shapes graph pairs v t → IsHeld shapes graph others v u
    held_by_others (vals.Int z) t u equal held = record { fits = lawful.fits graph (vals.Int z) t u (inl tt) equal held.fits; listed = tt }
    held_by_others (vals.Atom tag) t u equal held = record { fits = lawful.fits graph (vals.Atom tag) t u (inl tt) equal held.fits; listed = tt }
    held_by_others (vals.Ref o) t u equal held =
        let there = same.there o held.listed.0 held.listed.1 in
        record {
          fits = lawful.fits graph (vals.Ref o) t u (inl tt) equal held.fits;
          listed = (there.0, there.1, lawful.transitive there.0 held.listed.0 u there.2 (lawful.transitive held.listed.0 t u held.listed.2 equal));
        }

    typing_of_others : IsTyping shapes graph pairs → IsTyping shapes graph others
    typing_of_others typing = record {
      fits = λ o t among. let k = same.back o t among in lawful.fits graph (vals.Ref o) k.0 t (inl tt) k.2 (typing.fits o k.0 k.1);
      held = λ o t i a among need.
          let k = same.back o t among in
          let there = lawful.needs graph (vals.Ref o) t k.0 i a (inl tt) (lawful.symmetric k.0 t k.2) need in
          IsSomeAnd-weaker (λ v. IsHeld shapes graph pairs v there.0) (λ v. IsHeld shapes graph others v a) (field_at graph o i)
          (λ v h. held_by_others v there.0 a (lawful.symmetric a there.0 there.2) h) (typing.held o k.0 i there.0 k.1 there.1);
      one_type = λ o t a among other mutable.
          let k = same.back o t among in
          let l = same.back o a other in
          let back = lawful.symmetric k.0 t k.2 in
          let one = typing.one_type o k.0 l.0 k.1 l.1 (lawful.mutable graph o t k.0 (inl tt) back mutable) in
          lawful.transitive t k.0 a back (lawful.transitive k.0 l.0 a one l.2);
    }

    pub accepted_too : (root : Val) (t : T) → AreAccepted shapes graph root t pairs → AreAccepted shapes graph root t others
    accepted_too root t accepted =
        record { typing = typing_of_others accepted.typing; held = held_by_others root t t (lawful.reflexive t tt) accepted.held }

  -- If a list of pairs includes an object at an equal type, then adding the pair leaves the same
  -- objects at equal types.
  same_with_held : (pairs : List (ℕ × T)) (o : ℕ) (t : T) → IsListed shapes pairs (vals.Ref o) t → AreTheSame shapes pairs ((o, t) ∷ pairs)
  same_with_held pairs o t listed = record {
    there = λ p u among. (u, Contains-later (o, t) pairs (p, u) among, lawful.reflexive u tt);
    back = λ p u among. ⊎_elim
        (λ here. subst (λ (pair : ℕ × T). IsListed shapes pairs (vals.Ref pair.0) pair.1) here listed)
        (λ later. (u, later, lawful.reflexive u tt))
        (Contains-cases (o, t) pairs (p, u) among);
  }

  pub accepted_has_type : (root : Val) (t : T) (pairs : List (ℕ × T)) → AreAccepted shapes graph root t pairs → HasType shapes graph root t
  accepted_has_type (vals.Int z) t pairs accepted = record { fits = accepted.held.fits; typed = tt }
  accepted_has_type (vals.Atom tag) t pairs accepted = record { fits = accepted.held.fits; typed = tt }
  accepted_has_type (vals.Ref o) t pairs accepted = record {
    fits = accepted.held.fits;
    typed = (
      (o, t) ∷ pairs,
      typing_of_others pairs ((o, t) ∷ pairs) (same_with_held pairs o t accepted.held.listed) accepted.typing,
      Contains-first (o, t) pairs,
    );
  }

  pub accepted_hold_paths :
      (root : Val) (t : T) (pairs : List (ℕ × T)) → AreAccepted shapes graph root t pairs
      → (path : List ℕ) (o : ℕ) (u : T) → value_at shapes graph root t path ≡ Some (vals.Ref o, u) → IsListed shapes pairs (vals.Ref o) u
  accepted_hold_paths root t pairs accepted path o u leads =
      (position_is_held shapes Everything lawful graph pairs accepted.typing path root t (vals.Ref o) u tt accepted.held leads).1.listed
