-- The answer of the verification follows from what was found for each pair.
use Rattle.std.proofs.Common.{ℕ, ◌≡◌, ◌<◌, ◌≤◌, ◌+◌, ⊎_elim, inl, inr, List, [], ◌∷◌, length, refl, sym, ap, subst, arith}
use Rattle.std.specs.Prelude.{Contains, slice_get, IsSomeAnd}
use Rattle.std.proofs.lemmas.Option.{slice_get_within}
use Rattle.base_data.proofs.model.Options.{IsSomeAnd-some}
use Rattle.base_data.specs.declared.model.value.Val.{Val}
use Rattle.base_data.specs.declared.model.value.Val.TheVariants as vals
use Rattle.base_data.specs.declared.model.value.Obj.{Obj}
use Rattle.base_data.proofs.model.Numbers.{less_same_more}
use Rattle.types_spec.specs.declared.types.fault.Fault.{Fault}
use Rattle.types_spec.specs.declared.types.fault.Fault.TheVariants.{Mismatch, Conflict}
use Rattle.types_spec.specs.types.Fault.{IsFault, IsLexicallyBefore}
use Rattle.types_spec.specs.types.Table.{Table, table_shapes}
use Rattle.types_spec.specs.types.Typing.{field_at, IsHeld}
use Rattle.base_data.proofs.model.Lists.{Contains-position as position_in}
use Rattle.cert_format.specs.declared.section.Section.TheVariants as sections
use Rattle.cert_verify.specs.declared.certificate.verified.Why.{Why}
use Rattle.cert_verify.specs.declared.certificate.verified.Why.TheVariants.{Range, Unfit, Need, TwoTypes, Root, NotFault}
use Rattle.cert_verify.specs.declared.certificate.verified.Verified.TheVariants.{Rejected}
use Rattle.cert_verify.specs.certificate.AcceptedEntry.{AreAccepted}
use Rattle.cert_verify.specs.certificate.Verified.{IsThere, LacksNeed, IsAtTwoTypes, IsWrong, IsVerified, fault_section, position_of}
use Rattle.cert_verify.specs.certificate.Testing.{AreAllThere, IsRight, IsRightAt, AreRight, IsWrongWith, IsFirstAt}

-- ---- positions of faults

-- The position of a fault of a later pair is not before the position of a fault of an earlier pair.
later_pair : (i k c d c' d' : ℕ) → i < k → IsLexicallyBefore (1 ∷ k ∷ c ∷ d ∷ []) (1 ∷ i ∷ c' ∷ d' ∷ []) → ⊥
later_pair i k c d c' d' more (inl less) = omega (arith, less)
later_pair i k c d c' d' more (inr (one, inl less)) = omega (arith, more, less)
later_pair i k c d c' d' more (inr (one, inr (same, rest))) = omega (arith, more, same)

-- The position of a fault in a later round is not before the position of a fault in an earlier
-- round.
later_round : (a b c d a' b' c' d' : ℕ) → a' < a → IsLexicallyBefore (a ∷ b ∷ c ∷ d ∷ []) (a' ∷ b' ∷ c' ∷ d' ∷ []) → ⊥
later_round a b c d a' b' c' d' more (inl less) = omega (arith, more, less)
later_round a b c d a' b' c' d' more (inr (same, rest)) = omega (arith, more, same)

-- A position is not before itself.
never_itself : (a b c d : ℕ) → IsLexicallyBefore (a ∷ b ∷ c ∷ d ∷ []) (a ∷ b ∷ c ∷ d ∷ []) → ⊥
never_itself a b c d (inl less) = omega (arith, less)
never_itself a b c d (inr (one, inl less)) = omega (arith, less)
never_itself a b c d (inr (one, inr (two, inl less))) = omega (arith, less)
never_itself a b c d (inr (one, inr (two, inr (three, inl less)))) = omega (arith, less)
never_itself a b c d (inr (one, inr (two, inr (three, inr (four, never))))) = never

record IsAtPair (i : ℕ) (why : Why) : Type 0 where
  kind : ℕ
  field : ℕ
  is : position_of why ≡ 1 ∷ i ∷ kind ∷ field ∷ []

module _ (table : Table) (graph : List Obj) (root : Val) (pairs : List (ℕ × ℕ)) where
  at_pair : (i : ℕ) (why : Why) → IsWrongWith table graph pairs i why → IsAtPair i why
  at_pair i (Range j) wrong = absurd wrong
  at_pair i (Unfit j) wrong = record { kind = 0; field = 0; is = ap (λ n. 1 ∷ n ∷ 0 ∷ 0 ∷ []) wrong.0 }
  at_pair i (Need j f) wrong = record { kind = 1; field = f; is = ap (λ n. 1 ∷ n ∷ 1 ∷ f ∷ []) wrong.0 }
  at_pair i (TwoTypes j) wrong = record { kind = 2; field = 0; is = ap (λ n. 1 ∷ n ∷ 2 ∷ 0 ∷ []) wrong.0 }
  at_pair i Root wrong = absurd wrong
  at_pair i NotFault wrong = absurd wrong

  wrong_with : (i : ℕ) (why : Why) → IsWrongWith table graph pairs i why → IsWrong table graph root pairs why
  wrong_with i (Range j) wrong = absurd wrong
  wrong_with i (Unfit j) wrong = subst (λ n. IsWrong table graph root pairs (Unfit n)) (sym wrong.0) wrong.1
  wrong_with i (Need j f) wrong = subst (λ n. IsWrong table graph root pairs (Need n f)) (sym wrong.0) wrong.1
  wrong_with i (TwoTypes j) wrong = subst (λ n. IsWrong table graph root pairs (TwoTypes n)) (sym wrong.0) wrong.1
  wrong_with i Root wrong = absurd wrong
  wrong_with i NotFault wrong = absurd wrong

  -- If a pair is right, then it has no fault.
  right_not_wrong : (i : ℕ) (why : Why) → IsRightAt table graph pairs i → IsWrongWith table graph pairs i why → ⊥
  right_not_wrong i (Range j) right wrong = wrong
  right_not_wrong i (Unfit j) right wrong =
      let p = IsSomeAnd-some (slice_get pairs i) (λ pair. ¬ (table_shapes table).fits graph (vals.Ref pair.0) pair.1) wrong.1 in
      p.2 (right p.0 p.1).fits
  right_not_wrong i (Need j f) right wrong =
      let p = IsSomeAnd-some (slice_get pairs i) (λ pair. LacksNeed table graph pairs pair f) wrong.1 in
      p.2.lacks ((right p.0 p.1).holds f p.2.type p.2.needed)
  right_not_wrong i (TwoTypes j) right wrong =
      let p = IsSomeAnd-some (slice_get pairs i) (λ pair. IsAtTwoTypes table graph pairs pair) wrong.1 in
      p.2.unequal ((right p.0 p.1).one_type p.2.other p.2.among p.2.mutable)
  right_not_wrong i Root right wrong = wrong
  right_not_wrong i NotFault right wrong = wrong

  there_not_out : (i : ℕ) → AreAllThere table graph pairs → IsSomeAnd (slice_get pairs i) (λ pair. ¬ IsThere table graph pair) → ⊥
  there_not_out i there out = let p = IsSomeAnd-some (slice_get pairs i) (λ pair. ¬ IsThere table graph pair) out in p.2 (there i p.0 p.1)

  -- If the first `i` pairs and pair `i` are right, then the first `i + 1` pairs are right.
  pub right_more : (i : ℕ) → AreRight table graph pairs i → IsRightAt table graph pairs i → AreRight table graph pairs (i + 1)
  right_more i right own k less = ⊎_elim
      (λ before. right k before)
      (λ others. ⊎_elim
      (λ same. subst (λ n. IsRightAt table graph pairs n) (sym same) own)
      (λ more. absurd (omega (arith, less, more)))
      others)
      (less_same_more k i)

  -- ---- rejected entries

  module _ (there : AreAllThere table graph pairs) where
    pub pair_rejected :
        (i : ℕ) (why : Why) → AreRight table graph pairs i → IsFirstAt table graph pairs i why
        → IsVerified table graph root (sections.Pairs pairs) (Rejected why)
    pair_rejected i why right found = inr (why, record { is = wrong_with i why found.is; first = none }, refl) where
      own : IsAtPair i why
      own = at_pair i why found.is

      at_other : (k : ℕ) (other : Why) → IsWrongWith table graph pairs k other → IsLexicallyBefore (position_of other) (position_of why) → ⊥
      at_other k other wrong before = ⊎_elim
          (λ less. right_not_wrong k other (right k less) wrong)
          (λ others. ⊎_elim
          (λ same. found.first other (subst (λ n. IsWrongWith table graph pairs n other) same wrong) before)
          (λ more.
          let its = at_pair k other wrong in
          later_pair i k its.kind its.field own.kind own.field more
          (subst (λ p. IsLexicallyBefore p (1 ∷ i ∷ own.kind ∷ own.field ∷ [])) its.is (subst (λ p. IsLexicallyBefore (position_of other) p) own.is before)))
          others)
          (less_same_more k i)

      none : (other : Why) → IsWrong table graph root pairs other → ¬ IsLexicallyBefore (position_of other) (position_of why)
      none (Range k) wrong before = there_not_out k there wrong
      none (Unfit k) wrong before = at_other k (Unfit k) (refl, wrong) before
      none (Need k f) wrong before = at_other k (Need k f) (refl, wrong) before
      none (TwoTypes k) wrong before = at_other k (TwoTypes k) (refl, wrong) before
      none Root wrong before =
          later_round 2 0 0 0 1 i own.kind own.field (omega arith) (subst (λ p. IsLexicallyBefore (2 ∷ 0 ∷ 0 ∷ 0 ∷ []) p) own.is before)
      none NotFault wrong before = wrong

    pub root_rejected :
        (n : ℕ) → length pairs ≤ n → AreRight table graph pairs n → ¬ IsHeld (table_shapes table) graph pairs root 0
        → IsVerified table graph root (sections.Pairs pairs) (Rejected Root)
    root_rejected n many right not_held = inr (Root, record { is = not_held; first = none }, refl) where
      never : (P : ℕ × ℕ → Type 0) (k : ℕ) (other : Why) → IsSomeAnd (slice_get pairs k) P → IsWrongWith table graph pairs k other → ⊥
      never P k other some wrong =
          let p = IsSomeAnd-some (slice_get pairs k) P some in
          let inside = slice_get_within pairs k p.0 p.1 in
          right_not_wrong k other (right k (omega (arith, inside, many))) wrong

      none : (other : Why) → IsWrong table graph root pairs other → ¬ IsLexicallyBefore (position_of other) (2 ∷ 0 ∷ 0 ∷ 0 ∷ [])
      none (Range k) wrong before = there_not_out k there wrong
      none (Unfit k) wrong before = never (λ pair. ¬ (table_shapes table).fits graph (vals.Ref pair.0) pair.1) k (Unfit k) wrong (refl, wrong)
      none (Need k f) wrong before = never (λ pair. LacksNeed table graph pairs pair f) k (Need k f) wrong (refl, wrong)
      none (TwoTypes k) wrong before = never (λ pair. IsAtTwoTypes table graph pairs pair) k (TwoTypes k) wrong (refl, wrong)
      none Root wrong before = never_itself 2 0 0 0 before
      none NotFault wrong before = wrong

    -- ---- accepted entries

    pub accepted :
        (n : ℕ) → length pairs ≤ n → AreRight table graph pairs n → IsHeld (table_shapes table) graph pairs root 0
        → AreAccepted (table_shapes table) graph root 0 pairs
    accepted n many right held = record { typing = record { fits = own_fits; held = own_held; one_type = own_type }; held = held } where
      of_pair : (o t : ℕ) → Contains pairs (o, t) → IsRight table graph pairs (o, t)
      of_pair o t among =
          let k = position_in pairs (o, t) among in
          let inside = slice_get_within pairs k.0 (o, t) k.1 in
          right k.0 (omega (arith, inside, many)) (o, t) k.1

      own_fits : (o t : ℕ) → Contains pairs (o, t) → (table_shapes table).fits graph (vals.Ref o) t
      own_fits o t among = (of_pair o t among).fits

      own_held :
          (o t i u : ℕ) → Contains pairs (o, t) → Contains ((table_shapes table).needs graph (vals.Ref o) t) (i, u)
          → IsSomeAnd (field_at graph o i) (λ v. IsHeld (table_shapes table) graph pairs v u)
      own_held o t i u among need = (of_pair o t among).holds i u need

      own_type : (o t u : ℕ) → Contains pairs (o, t) → Contains pairs (o, u) → (table_shapes table).mutable graph o t → (table_shapes table).equal t u
      own_type o t u among other mutable = (of_pair o t among).one_type u other mutable

-- ---- faults

pub fault_rejected :
    (table : Table) (graph : List Obj) (root : Val) (fault : Fault) → ¬ IsFault (table_shapes table) graph root 0 fault
    → IsVerified table graph root (fault_section fault) (Rejected NotFault)
fault_rejected table graph root (Mismatch path) none =
    inr (NotFault, record { is = (refl, none); first = λ other wrong before. never_itself 3 0 0 0 (subst (λ w. IsLexicallyBefore (position_of w) (3 ∷ 0 ∷ 0 ∷ 0 ∷ [])) wrong.0 before) }, refl)
fault_rejected table graph root (Conflict first second) none =
    inr (NotFault, record { is = (refl, none); first = λ other wrong before. never_itself 3 0 0 0 (subst (λ w. IsLexicallyBefore (position_of w) (3 ∷ 0 ∷ 0 ∷ 0 ∷ [])) wrong.0 before) }, refl)
