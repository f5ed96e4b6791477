-- If a list of pairs is a typing over some shapes, then the list is a typing over all weaker
-- shapes.
use Rattle.std.proofs.Common.{ℕ, List, Option, Some, None}
use Rattle.std.specs.Prelude.{IsSomeAnd}
use Rattle.base_data.specs.declared.model.value.Val.{Val}
use Rattle.base_data.specs.declared.model.value.Val.TheVariants as vals
use Rattle.base_data.specs.declared.model.value.Obj.{Obj}
use Rattle.types_spec.specs.types.Shapes.{Shapes}
use Rattle.types_spec.specs.types.Typing.{field_at, IsListed, IsHeld, IsTyping, IsTyped, HasType}
use Rattle.types_theory.specs.wildcard.Weaker.{IsWeaker}

module _ {T : Type 0} (weak strong : Shapes T) (weaker : IsWeaker weak strong) (graph : List Obj) where
  module _ (pairs : List (ℕ × T)) where
    listed_still : (v : Val) (t : T) → IsListed strong pairs v t → IsListed weak pairs v t
    listed_still (vals.Int z) t listed = tt
    listed_still (vals.Atom tag) t listed = tt
    listed_still (vals.Ref o) t listed = (listed.0, listed.1, weaker.equal listed.0 t listed.2)

    held_still : (found : Option Val) (t : T) → IsSomeAnd found (λ v. IsHeld strong graph pairs v t)
        → IsSomeAnd found (λ v. IsHeld weak graph pairs v t)
    held_still None t held = absurd held
    held_still (Some v) t held = record {
      fits = weaker.fits graph v t held.fits;
      listed = listed_still v t held.listed;
    }

    typing_still : IsTyping strong graph pairs → IsTyping weak graph pairs
    typing_still typing = record {
      fits = λ o t among. weaker.fits graph (vals.Ref o) t (typing.fits o t among);
      held = λ o t i u among need. held_still (field_at graph o i) u (typing.held o t i u among
          (weaker.needs graph (vals.Ref o) t i u (typing.fits o t among) need));
      one_type = λ o t u among other mutable. weaker.equal t u (typing.one_type o t u among other
          (weaker.mutable graph o t (typing.fits o t among) mutable));
    }

  typed_still : (v : Val) (t : T) → IsTyped strong graph v t → IsTyped weak graph v t
  typed_still (vals.Int z) t typed = tt
  typed_still (vals.Atom tag) t typed = tt
  typed_still (vals.Ref o) t typed = (typed.0, typing_still typed.0 typed.1, typed.2)

  pub has_still : (v : Val) (t : T) → HasType strong graph v t → HasType weak graph v t
  has_still v t has = record {
    fits = weaker.fits graph v t has.fits;
    typed = typed_still v t has.typed;
  }
