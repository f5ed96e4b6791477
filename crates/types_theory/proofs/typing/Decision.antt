-- Faults are complete for lawful and decidable shapes, at a type that reaches finitely many types.
-- The proof is a search for a typing or a fault.
use Rattle.std.proofs.Common.{ℕ, zero, suc, ◌≡◌, ◌∙◌, ◌⊎◌, inl, inr, ◌++◌, List, [], ◌∷◌, length, Some, refl, sym, ap, subst, arith}
use Rattle.std.specs.Prelude.{option_map, option_and_then, Contains, IsSomeAnd}
use Rattle.std.proofs.lemmas.Option.{same_Some}
use Rattle.base_data.proofs.model.Options.{Contains-first, Contains-later, Contains-none, same_or_not, IsSomeAnd-at, Contains-cases}
use Rattle.base_data.specs.declared.model.value.Val.{Val}
use Rattle.base_data.specs.declared.model.value.Val.TheVariants as vals
use Rattle.base_data.specs.declared.model.value.Obj.{Obj}
use Rattle.types_spec.specs.declared.types.fault.Fault.TheVariants.{Mismatch, Conflict}
use Rattle.types_spec.specs.types.Shapes.{Shapes}
use Rattle.types_spec.specs.types.LawfulShapes.{AreLawful, Everything}
use Rattle.types_spec.specs.types.Typing.{field_at, IsListed, IsHeld, IsTyped}
use Rattle.types_spec.specs.types.Fault.{type_of_field, step, value_at, IsBefore}
use Rattle.types_spec.proofs.types.TypeFaultLemmas.{named_is_needed}
use Rattle.types_theory.specs.typing.Decidable.{AreDecidable, IsAmong, ReachesFew}
use Rattle.types_theory.specs.typing.CompleteFaults.{HasFault, HasTypeOrFault, FaultsAreComplete}
use Rattle.types_theory.proofs.typing.Choices.{search_all, IsWithout, without}
use Rattle.types_theory.proofs.typing.TypingNeedLemmas.{needed_is_named}
use Rattle.types_theory.proofs.typing.TypingPathLemmas.{OneOfThree, value_at-push, paths_compare}
use Rattle.types_theory.proofs.typing.TypingValueLemmas.{all_values, field_is_value, slots_of, slot_is_there}

-- ---- the state of the search

-- A path from the root leads to the value `w` at the type `u`, and `u` is equal to one of the
-- reachable types.
record IsReached {T : Type 0} (shapes : Shapes T) (graph : List Obj) (root : Val) (t : T) (types : List T) (w : Val) (u : T) : Type 0 where
  path : List ℕ
  leads : value_at shapes graph root t path ≡ Some (w, u)
  among : IsAmong shapes types u

-- The state of the search: pairs of an object and a type. Each pair is reached and matches, and the
-- root's pair is one of the pairs. If a value at a type is not listed yet, the value has a slot.
record IsExplored {T : Type 0} (shapes : Shapes T) (graph : List Obj) (o : ℕ) (t : T) (types : List T) (pairs : List (ℕ × T)) (slots : List (Val × T)) : Type 0 where
  first : Contains pairs (o, t)
  reached : (p : ℕ) (u : T) → Contains pairs (p, u) → IsReached shapes graph (vals.Ref o) t types (vals.Ref p) u
  fit : (p : ℕ) (u : T) → Contains pairs (p, u) → shapes.fits graph (vals.Ref p) u
  covered : (w : Val) (u : T) → Contains (all_values graph (vals.Ref o)) w → Contains types u → IsListed shapes pairs w u ⊎ Contains slots (w, u)

-- An object at a type that is reached and matches, and whose slot is still unused.
record IsNew {T : Type 0} (shapes : Shapes T) (graph : List Obj) (o : ℕ) (t : T) (types : List T) (slots : List (Val × T)) : Type 0 where
  object : ℕ
  one : T
  other : T
  reached : IsReached shapes graph (vals.Ref o) t types (vals.Ref object) one
  fit : shapes.fits graph (vals.Ref object) one
  same : shapes.equal one other
  slot : Contains slots (vals.Ref object, other)

module _ {T : Type 0} (shapes : Shapes T) (lawful : AreLawful shapes Everything) (decidable : AreDecidable shapes) (graph : List Obj) (o : ℕ) (t : T) (few : ReachesFew shapes t) where
  abbrev Reached : Val → T → Type 0
  Reached w u = IsReached shapes graph (vals.Ref o) t few.types w u

  abbrev Explored : List (ℕ × T) → List (Val × T) → Type 0
  Explored pairs slots = IsExplored shapes graph o t few.types pairs slots

  -- The result of testing a field that is not held: a fault of the value, or a new object.
  abbrev Found : List (Val × T) → Type 0
  Found slots = HasFault shapes graph (vals.Ref o) t ⊎ IsNew shapes graph o t few.types slots

  -- The final result of the search: a fault of the value, or a typing.
  abbrev Decided : Type 0
  Decided = HasFault shapes graph (vals.Ref o) t ⊎ IsTyped shapes graph (vals.Ref o) t

  abbrev needs_of : ℕ → T → List (ℕ × T)
  needs_of p u = shapes.needs graph (vals.Ref p) u

  abbrev Held : List (ℕ × T) → ℕ → ℕ × T → Type 0
  Held pairs p need = IsSomeAnd (field_at graph p need.0) (λ w. IsHeld shapes graph pairs w need.1)

  -- ---- one field

  step_of_need : (p : ℕ) (u : T) (i : ℕ) (a : T) (w : Val) → Contains (needs_of p u) (i, a) → field_at graph p i ≡ Some w → step shapes graph (vals.Ref p) u i ≡ Some (w, a)
  step_of_need p u i a w need field =
      let named = needed_is_named (needs_of p u) i a need in
      let is : named.0 ≡ a = decidable.once graph (vals.Ref p) u i named.0 a (named_is_needed (needs_of p u) i named.0 named.1) need in
      ap (λ v. option_and_then (λ x. option_map (λ b. (x, b)) (type_of_field (needs_of p u) i)) v) field
      ∙ ap (λ b. option_map (λ c. (w, c)) b) (named.1 ∙ ap Some is)

  among_more : (p : ℕ) (u : T) (i : ℕ) (a : T) → IsAmong shapes few.types u → Contains (needs_of p u) (i, a) → IsAmong shapes few.types a
  among_more p u i a among need =
      let other = lawful.needs graph (vals.Ref p) u among.0 i a (inl tt) among.2 need in
      let closed = few.closed graph (vals.Ref p) among.0 i other.0 among.1 other.1 in
      (closed.0, closed.1, lawful.transitive a other.0 closed.0 other.2 closed.2)

  reached_more : (p : ℕ) (u : T) (i : ℕ) (a : T) (w : Val) → Reached (vals.Ref p) u → Contains (needs_of p u) (i, a) → field_at graph p i ≡ Some w → Reached w a
  reached_more p u i a w from need field = record {
    path = from.path ++ i ∷ [];
    leads = value_at-push shapes graph from.path (vals.Ref o) t i (vals.Ref p, u) (w, a) from.leads (step_of_need p u i a w need field);
    among = among_more p u i a from.among need;
  }

  listed_at_equal : (pairs : List (ℕ × T)) (w : Val) (u a : T) → shapes.equal u a → IsListed shapes pairs w u → IsListed shapes pairs w a
  listed_at_equal pairs (vals.Int z) u a same listed = tt
  listed_at_equal pairs (vals.Atom tag) u a same listed = tt
  listed_at_equal pairs (vals.Ref p) u a same listed = (listed.0, listed.1, lawful.transitive listed.0 u a listed.2 same)

  -- If a value is reached and matches, then the value is held or its object is new.
  held_or_new : (pairs : List (ℕ × T)) (slots : List (Val × T)) → Explored pairs slots → (w : Val) (a : T) → Reached w a → Contains (all_values graph (vals.Ref o)) w → shapes.fits graph w a → IsNew shapes graph o t few.types slots ⊎ IsHeld shapes graph pairs w a
  held_or_new pairs slots explored (vals.Int z) a reached value fit = inr (record { fits = fit; listed = tt })
  held_or_new pairs slots explored (vals.Atom tag) a reached value fit = inr (record { fits = fit; listed = tt })
  held_or_new pairs slots explored (vals.Ref p) a reached value fit =
      by_cover (explored.covered (vals.Ref p) reached.among.0 value reached.among.1) where
        by_cover : IsListed shapes pairs (vals.Ref p) reached.among.0 ⊎ Contains slots (vals.Ref p, reached.among.0) → IsNew shapes graph o t few.types slots ⊎ IsHeld shapes graph pairs (vals.Ref p) a
        by_cover (inl listed) =
            inr (record { fits = fit; listed = listed_at_equal pairs (vals.Ref p) reached.among.0 a (lawful.symmetric a reached.among.0 reached.among.2) listed })
        by_cover (inr slot) = inl (record { object = p; one = a; other = reached.among.0; reached = reached; fit = fit; same = reached.among.2; slot = slot })

  -- The value of a required field does not match, is new, or is held.
  test_value : (pairs : List (ℕ × T)) (slots : List (Val × T)) → Explored pairs slots → (p i : ℕ) (a : T) (w : Val) → field_at graph p i ≡ Some w → Reached w a → Found slots ⊎ Held pairs p (i, a)
  test_value pairs slots explored p i a w field reached = by_fit (decidable.fits graph w a) where
    when_fit : IsNew shapes graph o t few.types slots ⊎ IsHeld shapes graph pairs w a → Found slots ⊎ Held pairs p (i, a)
    when_fit (inl new) = inl (inr new)
    when_fit (inr held) = inr (IsSomeAnd-at (field_at graph p i) w (λ x. IsHeld shapes graph pairs x a) field held)

    by_fit : shapes.fits graph w a ⊎ (shapes.fits graph w a → ⊥) → Found slots ⊎ Held pairs p (i, a)
    by_fit (inl fit) = when_fit (held_or_new pairs slots explored w a reached (field_is_value graph (vals.Ref o) p i w field) fit)
    by_fit (inr unfit) =
        inl (inl (Mismatch reached.path, IsSomeAnd-at (value_at shapes graph (vals.Ref o) t reached.path) (w, a) (λ position. shapes.fits graph position.0 position.1 → ⊥) reached.leads unfit))

  test_field : (pairs : List (ℕ × T)) (slots : List (Val × T)) → Explored pairs slots → (p : ℕ) (u : T) → Contains pairs (p, u) → (i : ℕ) (a : T) → Contains (needs_of p u) (i, a) → Found slots ⊎ Held pairs p (i, a)
  test_field pairs slots explored p u listed i a need =
      let there = decidable.there graph (vals.Ref p) u i a need in
      test_value pairs slots explored p i a there.0 there.1 (reached_more p u i a there.0 (explored.reached p u listed) need there.1)

  -- ---- all pairs

  abbrev AllHeld : List (ℕ × T) → ℕ × T → Type 0
  AllHeld pairs pair = (need : ℕ × T) → Contains (needs_of pair.0 pair.1) need → Held pairs pair.0 need

  -- Either some required field yields a fault or a new object, or every required field is held.
  test_pairs : (pairs : List (ℕ × T)) (slots : List (Val × T)) → Explored pairs slots → Found slots ⊎ ((pair : ℕ × T) → Contains pairs pair → AllHeld pairs pair)
  test_pairs pairs slots explored =
      search_all (AllHeld pairs) pairs (λ pair listed.
      search_all (Held pairs pair.0) (needs_of pair.0 pair.1) (λ need needed.
      test_field pairs slots explored pair.0 pair.1 listed need.0 need.1 needed))

  -- ---- mutable objects

  -- If the two pairs have the same object, which is mutable at the first type, then the types are
  -- equal.
  abbrev Agree : ℕ × T → ℕ × T → Type 0
  Agree one other = one.0 ≡ other.0 → shapes.mutable graph one.0 one.1 → shapes.equal one.1 other.1

  -- If two paths lead to one mutable object at unequal types, then the value has an aliasing
  -- conflict. The lesser path comes first in the aliasing conflict.
  conflict : (p : ℕ) (one other : T) → Reached (vals.Ref p) one → Reached (vals.Ref p) other → shapes.mutable graph p one → (shapes.equal one other → ⊥) → HasFault shapes graph (vals.Ref o) t
  conflict p one other first second mutable unequal = by_order (paths_compare first.path second.path) where
    at_one_position : first.path ≡ second.path → one ≡ other
    at_one_position same =
        ap (λ (position : Val × T). position.1) (same_Some (vals.Ref p, one) (vals.Ref p, other) (sym first.leads ∙ ap (value_at shapes graph (vals.Ref o) t) same ∙ second.leads))

    by_order : OneOfThree (IsBefore first.path second.path) (first.path ≡ second.path) (IsBefore second.path first.path) → HasFault shapes graph (vals.Ref o) t
    by_order (inl before) =
        (Conflict first.path second.path, record { object = p; one = one; other = other; before = before; at_first = first.leads; at_second = second.leads; unequal = unequal; mutable = inl mutable })
    by_order (inr (inl same)) = absurd (unequal (subst (λ u. shapes.equal one u) (at_one_position same) (lawful.reflexive one tt)))
    by_order (inr (inr after)) =
        (Conflict second.path first.path, record { object = p; one = other; other = one; before = after; at_first = second.leads; at_second = first.leads; unequal = λ same. unequal (lawful.symmetric other one same); mutable = inr mutable })

  -- Two pairs of the search form an aliasing conflict, or the two pairs agree.
  test_two : (pairs : List (ℕ × T)) (slots : List (Val × T)) → Explored pairs slots → (p : ℕ) (one : T) (q : ℕ) (other : T) → Contains pairs (p, one) → Contains pairs (q, other) → HasFault shapes graph (vals.Ref o) t ⊎ Agree (p, one) (q, other)
  test_two pairs slots explored p one q other listed listed' = by_object (same_or_not p q) where
    by_equal : p ≡ q → shapes.mutable graph p one → shapes.equal one other ⊎ (shapes.equal one other → ⊥) → HasFault shapes graph (vals.Ref o) t ⊎ Agree (p, one) (q, other)
    by_equal same mutable (inl equal) = inr (λ same mutable. equal)
    by_equal same mutable (inr unequal) =
        inl (conflict p one other (explored.reached p one listed) (subst (λ r. Reached (vals.Ref r) other) (sym same) (explored.reached q other listed')) mutable unequal)

    by_mutable : p ≡ q → shapes.mutable graph p one ⊎ (shapes.mutable graph p one → ⊥) → HasFault shapes graph (vals.Ref o) t ⊎ Agree (p, one) (q, other)
    by_mutable same (inl mutable) = by_equal same mutable (decidable.equal one other)
    by_mutable same (inr never) = inr (λ same mutable. absurd (never mutable))

    by_object : (p ≡ q) ⊎ (p ≡ q → ⊥) → HasFault shapes graph (vals.Ref o) t ⊎ Agree (p, one) (q, other)
    by_object (inl same) = by_mutable same (decidable.mutable graph p one)
    by_object (inr different) = inr (λ same. absurd (different same))

  -- Some two pairs of the search form an aliasing conflict, or every two pairs agree.
  every_two : (pairs : List (ℕ × T)) (slots : List (Val × T)) → Explored pairs slots → HasFault shapes graph (vals.Ref o) t ⊎ ((one : ℕ × T) → Contains pairs one → (other : ℕ × T) → Contains pairs other → Agree one other)
  every_two pairs slots explored =
      search_all (λ one. (other : ℕ × T) → Contains pairs other → Agree one other) pairs (λ one listed.
      search_all (Agree one) pairs (λ other listed'.
      test_two pairs slots explored one.0 one.1 other.0 other.1 listed listed'))

  -- ---- the search

  -- If every required field is held, then the pairs are a typing or two pairs form an aliasing
  -- conflict.
  close : (pairs : List (ℕ × T)) (slots : List (Val × T)) → Explored pairs slots → ((pair : ℕ × T) → Contains pairs pair → AllHeld pairs pair) → Decided
  close pairs slots explored held = by_twos (every_two pairs slots explored) where
    by_twos : HasFault shapes graph (vals.Ref o) t ⊎ ((one : ℕ × T) → Contains pairs one → (other : ℕ × T) → Contains pairs other → Agree one other) → Decided
    by_twos (inl fault) = inl fault
    by_twos (inr agree) =
        inr (
          pairs,
          record {
            fits = explored.fit;
            held = λ p u i a listed need. held (p, u) listed (i, a) need;
            one_type = λ p u a listed listed' mutable. agree (p, u) listed (p, a) listed' refl mutable;
          },
          explored.first,
        )

  listed_more : (pairs : List (ℕ × T)) (pair : ℕ × T) (w : Val) (u : T) → IsListed shapes pairs w u → IsListed shapes (pair ∷ pairs) w u
  listed_more pairs pair (vals.Int z) u listed = tt
  listed_more pairs pair (vals.Atom tag) u listed = tt
  listed_more pairs pair (vals.Ref p) u listed = (listed.0, Contains-later pair pairs (p, listed.0) listed.1, listed.2)

  abbrev added : {slots : List (Val × T)} → IsNew shapes graph o t few.types slots → ℕ × T
  added new = (new.object, new.one)

  -- If a new pair is added, then its slot is removed, and the state stays valid.
  explore_more : (pairs : List (ℕ × T)) (slots : List (Val × T)) → Explored pairs slots → (new : IsNew shapes graph o t few.types slots) (left : IsWithout slots (vals.Ref new.object, new.other)) → Explored (added new ∷ pairs) left.rest
  explore_more pairs slots explored new left = record {
    first = Contains-later (added new) pairs (o, t) explored.first;
    reached = λ p u listed. reached_by p u (Contains-cases (added new) pairs (p, u) listed);
    fit = λ p u listed. fit_by p u (Contains-cases (added new) pairs (p, u) listed);
    covered = λ w u value type. by_cover w u (explored.covered w u value type);
  } where
    reached_by : (p : ℕ) (u : T) → (added new ≡ (p, u)) ⊎ Contains pairs (p, u) → Reached (vals.Ref p) u
    reached_by p u (inl same) = subst (λ (pair : ℕ × T). Reached (vals.Ref pair.0) pair.1) same new.reached
    reached_by p u (inr later) = explored.reached p u later

    fit_by : (p : ℕ) (u : T) → (added new ≡ (p, u)) ⊎ Contains pairs (p, u) → shapes.fits graph (vals.Ref p) u
    fit_by p u (inl same) = subst (λ (pair : ℕ × T). shapes.fits graph (vals.Ref pair.0) pair.1) same new.fit
    fit_by p u (inr later) = explored.fit p u later

    by_slot : (w : Val) (u : T) → (◌≡◌ {A = Val × T} (vals.Ref new.object, new.other) (w, u)) ⊎ Contains left.rest (w, u) → IsListed shapes (added new ∷ pairs) w u ⊎ Contains left.rest (w, u)
    by_slot w u (inl same) =
        inl (subst (λ (slot : Val × T). IsListed shapes (added new ∷ pairs) slot.0 slot.1) same (new.one, Contains-first (added new) pairs, new.same))
    by_slot w u (inr kept) = inr kept

    by_cover : (w : Val) (u : T) → IsListed shapes pairs w u ⊎ Contains slots (w, u) → IsListed shapes (added new ∷ pairs) w u ⊎ Contains left.rest (w, u)
    by_cover w u (inl listed) = inl (listed_more pairs (added new) w u listed)
    by_cover w u (inr slot) = by_slot w u (left.others (w, u) slot)

  -- One round of the search finds a fault, finds a new pair, or completes the search.
  inspect : (pairs : List (ℕ × T)) (slots : List (Val × T)) → Explored pairs slots → (IsNew shapes graph o t few.types slots → Decided) → Decided
  inspect pairs slots explored go_on = by_found (test_pairs pairs slots explored) where
    by_found : Found slots ⊎ ((pair : ℕ × T) → Contains pairs pair → AllHeld pairs pair) → Decided
    by_found (inl (inl fault)) = inl fault
    by_found (inl (inr new)) = go_on new
    by_found (inr held) = close pairs slots explored held

  no_slot : (slots : List (Val × T)) (slot : Val × T) → length slots ≡ 0 → Contains slots slot → ⊥
  no_slot slots slot none (k, below, is) = omega arith

  -- The search terminates, because each new pair removes one of the `n` slots.
  saturate : (n : ℕ) (pairs : List (ℕ × T)) (slots : List (Val × T)) → length slots ≡ n → Explored pairs slots → Decided
  saturate zero pairs slots left explored =
      inspect pairs slots explored (λ new. absurd (no_slot slots (vals.Ref new.object, new.other) left new.slot))
  saturate (suc n) pairs slots left explored =
      inspect pairs slots explored (λ new.
      let rest : IsWithout slots (vals.Ref new.object, new.other) = without slots (vals.Ref new.object, new.other) new.slot in
      saturate n (added new ∷ pairs) rest.rest (omega (arith, left, rest.shorter)) (explore_more pairs slots explored new rest))

  -- At the start of the search only the root is listed, and each value has a slot at each type.
  start : shapes.fits graph (vals.Ref o) t → Explored ((o, t) ∷ []) (slots_of (all_values graph (vals.Ref o)) few.types)
  start fit = record {
    first = Contains-first (o, t) [];
    reached = λ p u listed. reached_by p u (Contains-cases (o, t) [] (p, u) listed);
    fit = λ p u listed. fit_by p u (Contains-cases (o, t) [] (p, u) listed);
    covered = λ w u value type. inr (slot_is_there (all_values graph (vals.Ref o)) few.types w u value type);
  } where
    reached_by : (p : ℕ) (u : T) → (◌≡◌ {A = ℕ × T} (o, t) (p, u)) ⊎ Contains {X = ℕ × T} [] (p, u) → Reached (vals.Ref p) u
    reached_by p u (inl same) =
        subst (λ (pair : ℕ × T). Reached (vals.Ref pair.0) pair.1) same (record { path = []; leads = refl; among = few.own })
    reached_by p u (inr never) = absurd (Contains-none (p, u) never)

    fit_by : (p : ℕ) (u : T) → (◌≡◌ {A = ℕ × T} (o, t) (p, u)) ⊎ Contains {X = ℕ × T} [] (p, u) → shapes.fits graph (vals.Ref p) u
    fit_by p u (inl same) = subst (λ (pair : ℕ × T). shapes.fits graph (vals.Ref pair.0) pair.1) same fit
    fit_by p u (inr never) = absurd (Contains-none (p, u) never)

  typed_or_fault : shapes.fits graph (vals.Ref o) t → Decided
  typed_or_fault fit =
      let slots = slots_of (all_values graph (vals.Ref o)) few.types in
      saturate (length slots) ((o, t) ∷ []) slots refl (start fit)

-- ---- any value

module _ {T : Type 0} (shapes : Shapes T) (lawful : AreLawful shapes Everything) (decidable : AreDecidable shapes) (graph : List Obj) where
  typed_value_or_fault : (v : Val) (t : T) → ReachesFew shapes t → shapes.fits graph v t → HasFault shapes graph v t ⊎ IsTyped shapes graph v t
  typed_value_or_fault (vals.Int z) t few fit = inr tt
  typed_value_or_fault (vals.Atom tag) t few fit = inr tt
  typed_value_or_fault (vals.Ref o) t few fit = typed_or_fault shapes lawful decidable graph o t few fit

  -- A value has a type or has a fault at the type.
  pub has_type_or_fault : (v : Val) (t : T) → ReachesFew shapes t → HasTypeOrFault shapes graph v t
  has_type_or_fault v t few = by_fit (decidable.fits graph v t) where
    by_typed : shapes.fits graph v t → HasFault shapes graph v t ⊎ IsTyped shapes graph v t → HasTypeOrFault shapes graph v t
    by_typed fit (inl fault) = inr fault
    by_typed fit (inr typed) = inl (record { fits = fit; typed = typed })

    by_fit : shapes.fits graph v t ⊎ (shapes.fits graph v t → ⊥) → HasTypeOrFault shapes graph v t
    by_fit (inl fit) = by_typed fit (typed_value_or_fault v t few fit)
    by_fit (inr unfit) = inr (Mismatch [], unfit)

pub faults_are_complete : FaultsAreComplete
faults_are_complete T shapes lawful decidable graph v t few = has_type_or_fault shapes lawful decidable graph v t few
