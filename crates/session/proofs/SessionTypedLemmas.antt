-- If a value has a type, then the value at the end of each path has its type.
use Rattle.std.proofs.Common.{ℕ, ◌≡◌, ⊎_elim, inl, List, [], ◌∷◌, Some, subst}
use Rattle.std.specs.Prelude.{Contains, IsSomeAnd}
use Rattle.base_data.proofs.model.Options.{Contains-first, Contains-later, Contains-none, Contains-cases, IsSomeAnd-weaker}
use Rattle.base_data.specs.declared.model.value.Val.{Val}
use Rattle.base_data.specs.declared.model.value.Val.TheVariants as vals
use Rattle.base_data.specs.declared.model.value.Obj.{Obj}
use Rattle.types_spec.specs.types.Shapes.{Shapes}
use Rattle.types_spec.specs.types.LawfulShapes.{AreLawful, Everything}
use Rattle.types_spec.specs.types.Typing.{field_at, IsHeld, IsTyping, HasType}
use Rattle.types_spec.specs.types.Fault.{value_at}
use Rattle.types_spec.proofs.types.TypeFaultLemmas.{position_is_held}

module _ {T : Type 0} (shapes : Shapes T) (lawful : AreLawful shapes Everything) (graph : List Obj) where
  -- If a value is held at a type, then it is held at each equal type, also by more pairs.
  held_by_more : (pairs : List (ℕ × T)) (pair : ℕ × T) (v : Val) (t u : T) → shapes.equal t u → IsHeld shapes graph pairs v t → IsHeld shapes graph (pair ∷ pairs) v u
  held_by_more pairs pair (vals.Int z) t u same held = record { fits = lawful.fits graph (vals.Int z) t u (inl tt) same held.fits; listed = tt }
  held_by_more pairs pair (vals.Atom tag) t u same held = record { fits = lawful.fits graph (vals.Atom tag) t u (inl tt) same held.fits; listed = tt }
  held_by_more pairs pair (vals.Ref o) t u same held = record {
    fits = lawful.fits graph (vals.Ref o) t u (inl tt) same held.fits;
    listed =
        (held.listed.0, Contains-later pair pairs (o, held.listed.0) held.listed.1, lawful.transitive held.listed.0 t u held.listed.2 same);
  }

  module _ (pairs : List (ℕ × T)) (typing : IsTyping shapes graph pairs) (o : ℕ) (u : T) (held : IsHeld shapes graph pairs (vals.Ref o) u) where
    -- Each pair belongs to the typing, at an equal type.
    abbrev Known : ℕ → T → Type 0
    Known p t = (s : T) × Contains pairs (p, s) × shapes.equal s t

    known : (p : ℕ) (t : T) → Contains ((o, u) ∷ pairs) (p, t) → Known p t
    known p t among = ⊎_elim
        (λ here. subst (λ (pair : ℕ × T). Known pair.0 pair.1) here held.listed)
        (λ later. (t, later, lawful.reflexive t tt))
        (Contains-cases (o, u) pairs (p, t) among)

    -- The pair may be added to the typing.
    typing_more : IsTyping shapes graph ((o, u) ∷ pairs)
    typing_more = record {
      fits = λ p t among. let k = known p t among in lawful.fits graph (vals.Ref p) k.0 t (inl tt) k.2 (typing.fits p k.0 k.1);
      held = λ p t i a among need.
          let k = known p t among in
          let there = lawful.needs graph (vals.Ref p) t k.0 i a (inl tt) (lawful.symmetric k.0 t k.2) need in
          IsSomeAnd-weaker (λ v. IsHeld shapes graph pairs v there.0) (λ v. IsHeld shapes graph ((o, u) ∷ pairs) v a) (field_at graph p i)
          (λ v h. held_by_more pairs (o, u) v there.0 a (lawful.symmetric a there.0 there.2) h) (typing.held p k.0 i there.0 k.1 there.1);
      one_type = λ p t a among other mutable.
          let k = known p t among in
          let l = known p a other in
          let back = lawful.symmetric k.0 t k.2 in
          let same = typing.one_type p k.0 l.0 k.1 l.1 (lawful.mutable graph p t k.0 (inl tt) back mutable) in
          lawful.transitive t k.0 a back (lawful.transitive k.0 l.0 a same l.2);
    }

  held_has_type : (pairs : List (ℕ × T)) → IsTyping shapes graph pairs → (v : Val) (t : T) → IsHeld shapes graph pairs v t → HasType shapes graph v t
  held_has_type pairs typing (vals.Int z) t held = record { fits = held.fits; typed = tt }
  held_has_type pairs typing (vals.Atom tag) t held = record { fits = held.fits; typed = tt }
  held_has_type pairs typing (vals.Ref o) t held =
      record { fits = held.fits; typed = ((o, t) ∷ pairs, typing_more pairs typing o t held, Contains-first (o, t) pairs) }

  nothing_is_typing : IsTyping shapes graph []
  nothing_is_typing = record {
    fits = λ o t among. absurd (Contains-none (o, t) among);
    held = λ o t i u among. absurd (Contains-none (o, t) among);
    one_type = λ o t u among. absurd (Contains-none (o, t) among);
  }

  held_by_some : (v : Val) (t : T) → HasType shapes graph v t → (pairs : List (ℕ × T)) × IsTyping shapes graph pairs × IsHeld shapes graph pairs v t
  held_by_some (vals.Int z) t has = ([], nothing_is_typing, record { fits = has.fits; listed = tt })
  held_by_some (vals.Atom tag) t has = ([], nothing_is_typing, record { fits = has.fits; listed = tt })
  held_by_some (vals.Ref o) t has =
      (has.typed.0, has.typed.1, record { fits = has.fits; listed = (t, has.typed.2, lawful.reflexive t tt) })

  pub position_has_type : (path : List ℕ) (v : Val) (t : T) (w : Val) (u : T) → HasType shapes graph v t → value_at shapes graph v t path ≡ Some (w, u) → HasType shapes graph w u
  position_has_type path v t w u has leads =
      let held = held_by_some v t has in
      held_has_type held.0 held.1 w u (position_is_held shapes Everything lawful graph held.0 held.1 path v t w u tt held.2 leads).1
