-- From the type and the trail of each object to the first fault.
use Rattle.std.proofs.Common.{ℕ, zero, suc, ◌+◌, ◌≡◌, ◌∙◌, ◌⊎◌, ⊎_elim, inl, inr, List, [], ◌∷◌, ◌++◌}
use Rattle.std.proofs.Common.{Option, Some, None, refl, sym, ap, subst, arith}
use Rattle.std.specs.Prelude.{Contains, IsTrue, IsSomeAnd, slice_get, All}
use Rattle.std.proofs.lemmas.Option.{same_Some, none-some}
use Rattle.std.proofs.lemmas.List.Elements.{All-head, All-tail, Contains-append_left, Contains-append_right, Contains-append_cases}
use Rattle.base_data.proofs.model.Options.{IsSomeAnd-some, Contains-first, Contains-cases, Contains-none}
use Rattle.base_data.specs.declared.model.value.Val.{Val}
use Rattle.base_data.specs.declared.model.value.Val.TheVariants as vals
use Rattle.base_data.specs.declared.model.value.Obj.{Obj}
use Rattle.types_spec.specs.types.Fitting.{fits_int, fits_atom}
use Rattle.types_spec.specs.types.LawfulShapes.{Everything, AreLawful}
use Rattle.types_spec.specs.types.Table.{Table, table_shapes, is_asked_in}
use Rattle.types_spec.specs.types.Typing.{field_at, IsHeld}
use Rattle.types_spec.specs.types.Fault.{step}
use Rattle.check_stream.specs.theory.AskedNeeds.{shape_at}
use Rattle.check_stream.proofs.theory.Kernel.{some_if}
use Rattle.check_stream.specs.mismatch_theory.OnlyWay.{AreHeldBut, IsNeededOf, IsWay, IsOnlyWay}
use Rattle.check_stream.specs.mismatch_theory.PassedBut.{MadeObject, HasFirst}
use Rattle.check_stream.proofs.mismatch_theory.MismatchPlainLemmas.{FitsAlone, IsAlone, held_alone}

-- ---- the pairs of objects and their types

abbrev typed_pair : ℕ → Option ℕ → List (ℕ × ℕ)
typed_pair n None = []
typed_pair n (Some t) = (n, t) ∷ []

abbrev pub pairs_from : ℕ → List MadeObject → List (ℕ × ℕ)
pairs_from n [] = []
pairs_from n (first ∷ made) = typed_pair n first.type ++ pairs_from (suc n) made

abbrev pub IsMadeAt : List MadeObject → ℕ → ℕ → List (ℕ × ℕ) → Type 0
IsMadeAt made o t trail = slice_get made o ≡ Some record { type = Some t; trail = trail }

pub pair_in : (n : ℕ) (made : List MadeObject) (k t : ℕ) (trail : List (ℕ × ℕ)) → IsMadeAt made k t trail → Contains (pairs_from n made) (n + k, t)
pair_in n [] k t trail at = absurd (none-some record { type = Some t; trail = trail } at)
pair_in n (first ∷ made) zero t trail at =
    let typed : first.type ≡ Some t = ap (λ (m : MadeObject). m.type) (same_Some first record { type = Some t; trail = trail } at) in
    let here : Contains (typed_pair n (Some t)) (n, t) = Contains-first {X = ℕ × ℕ} (n, t) [] in
    let there = Contains-append_left (typed_pair n first.type) (pairs_from (suc n) made) (n, t) (subst (λ x. Contains (typed_pair n x) (n, t)) (sym typed) here) in
    let same : n ≡ n + zero = omega arith in
    subst (λ m. Contains (pairs_from n (first ∷ made)) (m, t)) same there
pair_in n (first ∷ made) (suc k) t trail at =
    let same : suc n + k ≡ n + suc k = omega arith in
    Contains-append_right (typed_pair n first.type) (pairs_from (suc n) made) (n + suc k, t)
    (subst (λ m. Contains (pairs_from (suc n) made) (m, t)) same (pair_in (suc n) made k t trail at))

record IsPairOf (n : ℕ) (made : List MadeObject) (o t : ℕ) : Type 0 where
  position : ℕ
  trail : List (ℕ × ℕ)
  is : o ≡ n + position
  at : IsMadeAt made position t trail

first_pair : (n : ℕ) (first : MadeObject) (made : List MadeObject) (o t : ℕ) (type : Option ℕ) → first.type ≡ type → Contains (typed_pair n type) (o, t) → IsPairOf n (first ∷ made) o t
first_pair n first made o t None is among = absurd (Contains-none {X = ℕ × ℕ} (o, t) among)
first_pair n first made o t (Some u) is among = ⊎_elim
    (λ same.
    let object : n ≡ o = ap (λ (p : ℕ × ℕ). p.0) same in
    let type' : u ≡ t = ap (λ (p : ℕ × ℕ). p.1) same in
    record { position = zero; trail = first.trail; is = omega (arith, object); at = ap (λ x. Some record { type = x; trail = first.trail }) (is ∙ ap Some type') })
    (λ none. absurd (Contains-none {X = ℕ × ℕ} (o, t) none))
    (Contains-cases {X = ℕ × ℕ} (n, u) [] (o, t) among)

pair_out : (n : ℕ) (made : List MadeObject) (o t : ℕ) → Contains (pairs_from n made) (o, t) → IsPairOf n made o t
pair_out n [] o t among = absurd (Contains-none {X = ℕ × ℕ} (o, t) among)
pair_out n (first ∷ made) o t among = ⊎_elim
    (λ here. first_pair n first made o t first.type refl here)
    (λ later. let r = pair_out (suc n) made o t later in let is = r.is in record { position = suc r.position; trail = r.trail; is = omega (arith, is); at = r.at })
    (Contains-append_cases (typed_pair n first.type) (pairs_from (suc n) made) (o, t) among)

abbrev pub typed_of : List MadeObject → List (ℕ × ℕ)
typed_of made = pairs_from 0 made

pub typed_in : (made : List MadeObject) (o t : ℕ) (trail : List (ℕ × ℕ)) → IsMadeAt made o t trail → Contains (typed_of made) (o, t)
typed_in made o t trail at =
    let same : 0 + o ≡ o = omega arith in
    subst (λ k. Contains (typed_of made) (k, t)) same (pair_in 0 made o t trail at)

pub made_of : (made : List MadeObject) (o t : ℕ) → Contains (pairs_from 0 made) (o, t) → (trail : List (ℕ × ℕ)) × IsMadeAt made o t trail
made_of made o t among =
    let r = pair_out 0 made o t among in
    let is = r.is in
    let same : r.position ≡ o = omega (arith, is) in
    (r.trail, subst (λ k. IsMadeAt made k t r.trail) same r.at)

abbrev first_link : List (ℕ × ℕ) → ℕ × ℕ
first_link [] = (0, 0)
first_link (link ∷ trail) = link

-- ---- the invariant of each object

module _ (table : Table) (graph : List Obj) (made : List MadeObject) (back : List ℕ) (noted : List (ℕ × ℕ)) (root : Val) (missed : List (ℕ × ℕ)) where
  abbrev NotBack : ℕ × ℕ → Type 0
  NotBack link = Contains back link.0 → ⊥

  abbrev pairs : List (ℕ × ℕ)
  pairs = typed_of made ++ noted

  -- Object `o` has the type `t`, and a reference leads back to the object.
  pub record IsMetAgain (o t : ℕ) : Type 0 where
    pub typed : HasFirst table made o t ⊎ Contains noted (o, t)
    pub led : Contains back o

  -- The value satisfies the requirement of the position with this trail and type.
  abbrev pub IsFine : List (ℕ × ℕ) → Val → ℕ → Type 0
  IsFine trail (vals.Int z) t = IsTrue (fits_int (shape_at table t) z)
  IsFine trail (vals.Atom tag) t = IsTrue (fits_atom (shape_at table t) tag)
  IsFine trail (vals.Ref o) t = IsMadeAt made o t trail ⊎ IsMetAgain o t

  -- The value at the end of the trail is the mismatch.
  pub record IsMissedHere (trail : List (ℕ × ℕ)) (v : Val) : Type 0 where
    pub here : missed ≡ trail
    pub object : (o : ℕ) → v ≡ vals.Ref o → (type : Option ℕ) × (slice_get made o ≡ Some record { type = type; trail = trail })

  abbrev pub IsPlaced : List (ℕ × ℕ) → Val → ℕ → Type 0
  IsPlaced trail v t = IsFine trail v t ⊎ IsMissedHere trail v

  -- The last step of the trail leads to object `o` at type `t`.
  abbrev pub IsFrom : List (ℕ × ℕ) → ℕ → ℕ → Type 0
  IsFrom [] o t = (root ≡ vals.Ref o) × (0 ≡ t)
  IsFrom (link ∷ trail) o t =
      (s : ℕ) × IsMadeAt made link.0 s trail × IsTrue (is_asked_in table s)
      × (step (table_shapes table) graph (vals.Ref link.0) s link.1 ≡ Some (vals.Ref o, t))

  pub record IsField (o i : ℕ) (trail : List (ℕ × ℕ)) (a : ℕ) : Type 0 where
    pub value : Val
    pub field : field_at graph o i ≡ Some value
    pub placed : IsPlaced ((o, i) ∷ trail) value a

  pub record AreMade : Type 0 where
    pub root_fine : IsFine [] root 0
    pub fits : (o s : ℕ) (trail : List (ℕ × ℕ)) → IsMadeAt made o s trail → (table_shapes table).fits graph (vals.Ref o) s
    pub fields : (o s : ℕ) (trail : List (ℕ × ℕ)) (i a : ℕ) → IsMadeAt made o s trail → Contains ((table_shapes table).needs graph (vals.Ref o) s) (i, a) → IsField o i trail a
    pub ways : (o t : ℕ) (trail : List (ℕ × ℕ)) → IsMadeAt made o t trail → IsTrue (is_asked_in table t) → IsFrom trail o t
    pub again : (o t : ℕ) → Contains noted (o, t) → IsAlone table graph o t

  module _ (lawful : AreLawful (table_shapes table) Everything) (are : AreMade) where
    first_in : (o t : ℕ) (trail : List (ℕ × ℕ)) → IsMadeAt made o t trail → Contains pairs (o, t)
    first_in o t trail at = Contains-append_left (typed_of made) noted (o, t) (typed_in made o t trail at)

    again_held : (o t : ℕ) → IsMetAgain o t → IsHeld (table_shapes table) graph pairs (vals.Ref o) t
    again_held o t again = ⊎_elim
        (λ first. record {
          fits = lawful.fits graph (vals.Ref o) first.type t (inl tt) first.equal (are.fits o first.type first.trail first.at);
          listed = (first.type, first_in o first.type first.trail first.at, first.equal);
        })
        (λ second. record {
          fits = (are.again o t second).fits;
          listed = (t, Contains-append_right (typed_of made) noted (o, t) second, lawful.reflexive t tt);
        })
        again.typed

    fine_held : (trail : List (ℕ × ℕ)) (v : Val) (t : ℕ) → IsFine trail v t → IsHeld (table_shapes table) graph pairs v t
    fine_held trail (vals.Int z) t fine = record { fits = some_if (fits_int (shape_at table t) z) fine; listed = tt }
    fine_held trail (vals.Atom tag) t fine = record { fits = some_if (fits_atom (shape_at table t) tag) fine; listed = tt }
    fine_held trail (vals.Ref o) t (inl at) = record { fits = are.fits o t trail at; listed = (t, first_in o t trail at, lawful.reflexive t tt) }
    fine_held trail (vals.Ref o) t (inr again) = again_held o t again

    -- If a field of a pair is not the mismatch, then the field is held.
    held_first : (o i : ℕ) (trail : List (ℕ × ℕ)) → missed ≡ (o, i) ∷ trail → (p s : ℕ) (way : List (ℕ × ℕ)) (j u : ℕ) → IsMadeAt made p s way → Contains ((table_shapes table).needs graph (vals.Ref p) s) (j, u) → Contains {X = ℕ × ℕ} ((o, i) ∷ []) (p, j) ⊎ IsSomeAnd (field_at graph p j) (λ v. IsHeld (table_shapes table) graph pairs v u)
    held_first o i trail is p s way j u at need =
        let f = are.fields p s way j u at need in
        ⊎_elim
        (λ fine. inr (subst (λ x. IsSomeAnd x (λ v. IsHeld (table_shapes table) graph pairs v u)) (sym f.field) (fine_held ((p, j) ∷ way) f.value u fine)))
        (λ missed'.
        let same : ◌≡◌ {A = ℕ × ℕ} (o, i) (p, j) = ap first_link (sym is ∙ missed'.here) in
        inl (subst (λ (hole : ℕ × ℕ). Contains ((o, i) ∷ []) hole) same (Contains-first {X = ℕ × ℕ} (o, i) [])))
        f.placed

    held_again : (p s j u : ℕ) → Contains noted (p, s) → Contains ((table_shapes table).needs graph (vals.Ref p) s) (j, u) → IsSomeAnd (field_at graph p j) (λ v. IsHeld (table_shapes table) graph pairs v u)
    held_again p s j u among need =
        let found = IsSomeAnd-some (field_at graph p j) (λ v. FitsAlone table v u) ((are.again p s among).fields j u need) in
        subst (λ x. IsSomeAnd x (λ v. IsHeld (table_shapes table) graph pairs v u)) (sym found.1) (held_alone table graph pairs found.0 u found.2)

    pub held_but : (o i : ℕ) (trail : List (ℕ × ℕ)) → missed ≡ (o, i) ∷ trail → AreHeldBut (table_shapes table) graph pairs ((o, i) ∷ []) root 0
    held_but o i trail is = record {
      root_held = fine_held [] root 0 are.root_fine;
      held = λ p s j u among need. ⊎_elim
          (λ first. let at = made_of made p s first in held_first o i trail is p s at.0 j u at.1 need)
          (λ second. inr (held_again p s j u second need))
          (Contains-append_cases (typed_of made) noted (p, s) among);
    }

    -- If no reference leads back to an object, then each position that holds the object has the
    -- object's trail.
    fine_trail : (o s a : ℕ) (trail position : List (ℕ × ℕ)) → IsMadeAt made o s trail → (Contains back o → ⊥) → IsFine position (vals.Ref o) a → trail ≡ position
    fine_trail o s a trail position at not (inl at') =
        ap (λ (m : MadeObject). m.trail) (same_Some record { type = Some s; trail = trail } record { type = Some a; trail = position } (sym at ∙ at'))
    fine_trail o s a trail position at not (inr again) = absurd (not again.led)

    placed_trail : (o s a : ℕ) (trail position : List (ℕ × ℕ)) → IsMadeAt made o s trail → (Contains back o → ⊥) → IsPlaced position (vals.Ref o) a → trail ≡ position
    placed_trail o s a trail position at not (inl fine) = fine_trail o s a trail position at not fine
    placed_trail o s a trail position at not (inr missed') =
        let r = missed'.object o refl in
        ap (λ (m : MadeObject). m.trail) (same_Some record { type = Some s; trail = trail } record { type = r.0; trail = position } (sym at ∙ r.1))

    -- A field of an object at a second type is not a reference.
    not_again : (o p j t a : ℕ) → Contains noted (p, t) → Contains ((table_shapes table).needs graph (vals.Ref p) t) (j, a) → field_at graph p j ≡ Some (vals.Ref o) → ⊥
    not_again o p j t a among needed field =
        subst (λ x. IsSomeAnd x (λ v. FitsAlone table v a)) field ((are.again p t among).fields j a needed)

    needed_trail : (o s p j : ℕ) (trail : List (ℕ × ℕ)) → IsMadeAt made o s trail → (Contains back o → ⊥) → IsNeededOf (table_shapes table) graph pairs p j (vals.Ref o) → (position : List (ℕ × ℕ)) × (trail ≡ (p, j) ∷ position)
    needed_trail o s p j trail at not n = ⊎_elim
        (λ first.
        let holder = made_of made p n.type first in
        let f = are.fields p n.type holder.0 j n.asked holder.1 n.needed in
        let same : f.value ≡ vals.Ref o = same_Some f.value (vals.Ref o) (sym f.field ∙ n.field) in
        (holder.0, placed_trail o s n.asked trail ((p, j) ∷ holder.0) at not (subst (λ v. IsPlaced ((p, j) ∷ holder.0) v n.asked) same f.placed)))
        (λ second. absurd (not_again o p j n.type n.asked second n.needed n.field))
        (Contains-append_cases (typed_of made) noted (p, n.type) n.among)

    no_cons : (link : ℕ × ℕ) (trail : List (ℕ × ℕ)) → [] ≡ link ∷ trail → ⊥
    no_cons link trail same = subst IsEmpty same tt where
      IsEmpty : List (ℕ × ℕ) → Type 0
      IsEmpty [] = Unit {0}
      IsEmpty (link ∷ trail) = ⊥

    -- The trail of an object leads from the root to the object.
    pub way_of : (trail : List (ℕ × ℕ)) (o s : ℕ) → IsMadeAt made o s trail → IsTrue (is_asked_in table s) → IsWay (table_shapes table) graph root 0 trail o s
    way_of [] o s at asked = are.ways o s [] at asked
    way_of (link ∷ trail) o s at asked =
        let from = are.ways o s (link ∷ trail) at asked in
        (from.0, way_of trail link.0 from.0 from.1 from.2, from.3)

    pub only_of : (trail : List (ℕ × ℕ)) (o s : ℕ) → IsMadeAt made o s trail → IsTrue (is_asked_in table s) → (Contains back o → ⊥) → All NotBack trail → IsOnlyWay (table_shapes table) graph pairs root trail o
    only_of [] o s at asked not others = λ p j n.
        let r = needed_trail o s p j [] at not n in
        no_cons (p, j) r.0 r.1
    only_of (link ∷ trail) o s at asked not others =
        let from = are.ways o s (link ∷ trail) at asked in (
          (λ is. no_cons link trail (sym (fine_trail o s 0 (link ∷ trail) [] at not (subst (λ v. IsFine [] v 0) is are.root_fine)))),
          (λ p j n.
              let r = needed_trail o s p j (link ∷ trail) at not n in
              let same : link ≡ (p, j) = ap first_link r.1 in
              (ap (λ (l : ℕ × ℕ). l.0) (sym same), ap (λ (l : ℕ × ℕ). l.1) (sym same))),
          only_of trail link.0 from.0 from.1 from.2 (All-head NotBack link trail others) (All-tail NotBack link trail others),
        )
