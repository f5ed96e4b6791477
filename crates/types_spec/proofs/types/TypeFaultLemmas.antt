-- If representations are lawful at a set of types that contains the requested type, then a value
-- with a fault does not have the requested type.
use Rattle.std.proofs.Common.{ℕ, ◌≡◌, ◌==◌, ⊎_elim, inl, inr, List, [], ◌∷◌, Bool, true, false}
use Rattle.std.proofs.Common.{cond, Option, Some, None, refl, ap, subst}
use Rattle.std.specs.Prelude.{option_map, find, Contains}
use Rattle.std.proofs.lemmas.Option.{option_and_then_some, same_Some, none-some}
use Rattle.std.proofs.lemmas.Bool.Decides.{Decides-eqb}
use Rattle.base_data.proofs.model.Options.{IsSomeAnd-some, Contains-first, Contains-later, Contains-none}
use Rattle.base_data.specs.declared.model.value.Val.{Val}
use Rattle.base_data.specs.declared.model.value.Val.TheVariants as vals
use Rattle.base_data.specs.declared.model.value.Obj.{Obj}
use Rattle.types_spec.specs.declared.types.fault.Fault.{Fault}
use Rattle.types_spec.specs.declared.types.fault.Fault.TheVariants.{Mismatch, Conflict}
use Rattle.types_spec.specs.types.Shapes.{Shapes}
use Rattle.types_spec.specs.types.LawfulShapes.{AreLawful}
use Rattle.types_spec.specs.types.Typing.{field_at, IsHeld, IsTyping, HasType}
use Rattle.types_spec.specs.types.Fault.{type_of_field, step, value_at, IsFault}

-- ---- required fields

named_at_first :
    {T : Type 0} (test : Bool) (k i : ℕ) (u t : T) (needs : List (ℕ × T)) → (test ≡ true → k ≡ i)
    → (type_of_field needs i ≡ Some t → Contains needs (i, t))
    → option_map (λ (need : ℕ × T). need.1)
    (cond test (Some (k, u)) (find (λ need. need.0 == i) needs)) ≡ Some t
    → Contains ((k, u) ∷ needs) (i, t)
named_at_first {T} true k i u t needs same later named =
    let is : u ≡ t = same_Some u t named in
    let at_i : k ≡ i = same refl in
    let pair : ◌≡◌ {A = ℕ × T} (k, u) (i, t) = cc in
    subst (λ need. Contains ((k, u) ∷ needs) need) pair (Contains-first (k, u) needs)
named_at_first false k i u t needs same later named =
    Contains-later (k, u) needs (i, t) (later named)

-- If the lookup of field `i` finds a type, then field `i` is required at the type.
pub named_is_needed :
    {T : Type 0} (needs : List (ℕ × T)) (i : ℕ) (t : T) → type_of_field needs i ≡ Some t
    → Contains needs (i, t)
named_is_needed [] i t named = absurd (none-some t named)
named_is_needed (need ∷ needs) i t named =
    named_at_first (need.0 == i) need.0 i need.1 t needs (Decides-eqb need.0 i).0
    (named_is_needed needs i t) named

pub paired : {T : Type 0} (w : Val) (named : Option T) (next : Val × T)
    → option_map (λ u. (w, u)) named ≡ Some next → (named ≡ Some next.1) × (w ≡ next.0)
paired w None next same = absurd (none-some next same)
paired w (Some u) next same =
    let pair = same_Some (w, u) next same in
    (ap (λ p. Some p.1) pair, ap (λ p. p.0) pair)

-- ---- steps and paths

module _ {T : Type 0} (shapes : Shapes T) (InQuestion : T → Type 0)
    (lawful : AreLawful shapes InQuestion) (graph : List Obj) (pairs : List (ℕ × T))
    (typing : IsTyping shapes graph pairs) where
  -- If a value is held at a type, then it is held at each equal type.
  held_at_equal : (v : Val) (t u : T) → InQuestion u → shapes.equal t u
      → IsHeld shapes graph pairs v t → IsHeld shapes graph pairs v u
  held_at_equal (vals.Int z) t u in_question same held =
      record {
        fits = lawful.fits graph (vals.Int z) t u (inr in_question) same held.fits;
        listed = tt;
      }
  held_at_equal (vals.Atom tag) t u in_question same held =
      record {
        fits = lawful.fits graph (vals.Atom tag) t u (inr in_question) same held.fits;
        listed = tt;
      }
  held_at_equal (vals.Ref o) t u in_question same held =
      record {
        fits = lawful.fits graph (vals.Ref o) t u (inr in_question) same held.fits;
        listed =
            (held.listed.0, held.listed.1, lawful.transitive held.listed.0 t u held.listed.2 same);
      }

  pub field_is_held : (o i : ℕ) (t : T) (w : Val) (u : T) → InQuestion t
      → IsHeld shapes graph pairs (vals.Ref o) t → field_at graph o i ≡ Some w
      → Contains (shapes.needs graph (vals.Ref o) t) (i, u) → IsHeld shapes graph pairs w u
  field_is_held o i t w u in_question held field need =
      let s : T = held.listed.0 in
      let other = lawful.needs graph (vals.Ref o) t s i u (inl in_question)
      (lawful.symmetric s t held.listed.2) need in
      let found = typing.held o s i other.0 held.listed.1 other.1 in
      held_at_equal w other.0 u (lawful.closed graph (vals.Ref o) t i u in_question need)
      (lawful.symmetric u other.0 other.2) (rw field at found)

  step_is_held : (v : Val) (t : T) (i : ℕ) (next : Val × T) → InQuestion t
      → IsHeld shapes graph pairs v t → step shapes graph v t i ≡ Some next → InQuestion next.1
      × IsHeld shapes graph pairs next.0 next.1
  step_is_held (vals.Int z) t i next in_question held stepped = absurd (none-some next stepped)
  step_is_held (vals.Atom tag) t i next in_question held stepped = absurd (none-some next stepped)
  step_is_held (vals.Ref o) t i next in_question held stepped =
      option_and_then_some
      (λ w. option_map (λ u. (w, u)) (type_of_field (shapes.needs graph (vals.Ref o) t) i))
      (field_at graph o i) next stepped (λ w field typed.
      let parts = paired w (type_of_field (shapes.needs graph (vals.Ref o) t) i) next typed in
      let need = named_is_needed (shapes.needs graph (vals.Ref o) t) i next.1 parts.0 in (
        lawful.closed graph (vals.Ref o) t i next.1 in_question need,
        field_is_held o i t next.0
            next.1 in_question held (subst (λ x. field_at graph o i ≡ Some x) parts.1 field) need,
      ))

  -- If a value is held, then each path from the value leads to a value that is held.
  pub position_is_held :
      (path : List ℕ) (v : Val) (t : T) (w : Val) (u : T) → InQuestion t
      → IsHeld shapes graph pairs v t → value_at shapes graph v t path ≡ Some (w, u) → InQuestion u
      × IsHeld shapes graph pairs w u
  position_is_held [] v t w u in_question held found =
      subst (λ (position : Val × T). InQuestion position.1 × IsHeld shapes graph pairs position.0 position.1)
      (same_Some (v, t) (w, u) found) (in_question, held)
  position_is_held (i ∷ path) v t w u in_question held found =
      option_and_then_some (λ next. value_at shapes graph next.0 next.1 path)
      (step shapes graph v t i) (w, u) found (λ next stepped rest.
      let after = step_is_held v t i next in_question held stepped in
      position_is_held path next.0 next.1 w u after.0 after.1 rest)

  -- If an object is held at two types and is mutable at one of the two types, then the types are
  -- equal.
  equal_where_mutable :
      (o : ℕ) (one other : T) → InQuestion one → IsHeld shapes graph pairs (vals.Ref o) one
      → IsHeld shapes graph pairs (vals.Ref o) other → shapes.mutable graph o one
      → shapes.equal one other
  equal_where_mutable o one other in_question held_one held_other mutable =
      let s = held_one.listed.0 in
      let r = held_other.listed.0 in
      let back = lawful.symmetric s one held_one.listed.2 in
      let same = typing.one_type o s r held_one.listed.1 held_other.listed.1
      (lawful.mutable graph o one s (inl in_question) back mutable) in
      lawful.transitive one s other back (lawful.transitive s r other same held_other.listed.2)

-- ---- types and faults

module _ {T : Type 0} (shapes : Shapes T) (InQuestion : T → Type 0)
    (lawful : AreLawful shapes InQuestion) (graph : List Obj) where
  nothing_is_typing : IsTyping shapes graph []
  nothing_is_typing = record {
    fits = λ o t among. absurd (Contains-none (o, t) among);
    held = λ o t i u among. absurd (Contains-none (o, t) among);
    one_type = λ o t u among. absurd (Contains-none (o, t) among);
  }

  -- If a value has a type, then some typing holds it.
  pub held_by_some : (v : Val) (t : T) → InQuestion t → HasType shapes graph v t
      → (pairs : List (ℕ × T)) × IsTyping shapes graph pairs × IsHeld shapes graph pairs v t
  held_by_some (vals.Int z) t in_question has =
      ([], nothing_is_typing, record { fits = has.fits; listed = tt })
  held_by_some (vals.Atom tag) t in_question has =
      ([], nothing_is_typing, record { fits = has.fits; listed = tt })
  held_by_some (vals.Ref o) t in_question has = (
    has.typed.0,
    has.typed.1,
    record {
      fits = has.fits;
      listed =
          (t, has.typed.2, lawful.reflexive t in_question);
    },
  )

  -- If a value has a fault at a type, then the value does not have the type.
  pub fault_excludes_type :
      (v : Val) (t : T) (fault : Fault) → InQuestion t → IsFault shapes graph v t fault
      → HasType shapes graph v t → ⊥
  fault_excludes_type v t (Mismatch path) in_question mismatch has =
      let held = held_by_some v t in_question has in
      let found = IsSomeAnd-some (value_at shapes graph v t path)
      (λ position. shapes.fits graph position.0 position.1 → ⊥) mismatch in
      found.2 (position_is_held shapes InQuestion lawful graph held.0 held.1 path v t found.0.0
      found.0.1 in_question held.2 found.1).1.fits
  fault_excludes_type v t (Conflict first second) in_question conflict has =
      let held = held_by_some v t in_question has in
      let one = position_is_held shapes InQuestion lawful graph held.0 held.1 first v t
      (vals.Ref conflict.object) conflict.one in_question held.2 conflict.at_first in
      let other = position_is_held shapes InQuestion lawful graph held.0 held.1 second v t
      (vals.Ref conflict.object) conflict.other in_question held.2 conflict.at_second in
      conflict.unequal (⊎_elim
      (λ mutable. equal_where_mutable shapes InQuestion lawful graph held.0 held.1 conflict.object
      conflict.one conflict.other one.0 one.1 other.1 mutable)
      (λ mutable. lawful.symmetric conflict.other conflict.one (equal_where_mutable shapes InQuestion
      lawful graph held.0 held.1 conflict.object conflict.other conflict.one other.0 other.1 one.1
      mutable))
      conflict.mutable)
