-- The first fault of a pair.
use Rattle.std.proofs.Common.{ℕ, zero, suc, ◌≡◌, ◌<◌, ◌≤◌, ◌+◌, ◌∙◌, ◌⊎◌, ⊎_elim, inl, inr, Bool, List, [], ◌∷◌, length, Option, Some, refl, sym, ap, subst, arith}
use Rattle.std.specs.Prelude.{Contains, slice_get, option_map, IsSome, IsSomeAnd, IsTrue}
use Rattle.std.proofs.lemmas.Option.{same_Some, slice_get_within}
use Rattle.base_data.proofs.model.Options.{slice_get-Contains, IsSomeAnd-at, same_or_not}
use Rattle.base_data.specs.declared.model.value.Val.TheVariants as vals
use Rattle.base_data.specs.declared.model.value.Obj.{Obj}
use Rattle.types_spec.specs.declared.types.shape.ShapeOf.{ShapeOf}
use Rattle.types_spec.specs.types.Fitting.{fields_of, is_mutable}
use Rattle.types_spec.specs.types.LawfulShapes.{AreLawful, Everything}
use Rattle.types_spec.specs.types.Fault.{IsLexicallyBefore}
use Rattle.types_spec.specs.types.Table.{Table, table_shapes, node_or_none, is_asked_in}
use Rattle.types_spec.proofs.types.TypeAskedLemmas.{need_typed, typed_needed}
use Rattle.types_spec.specs.types.Typing.{IsHeld}
use Rattle.types_theory.proofs.table.TableDecideLemmas.{numbers_same_or_not}
use Rattle.marshal_heap.specs.heap.Heap.{field_at}
use Rattle.check_heap.specs.declared.fits.needs.Needs.{Needs}
use Rattle.check_heap.specs.fits.Needs.{needs_in}
use Rattle.check_heap.specs.scan.Scanned.{object_typed}
use Rattle.base_data.proofs.model.Lists.{Contains-position as position_in}
use Rattle.check_heap.proofs.scan.IncreaseLemmas.{position_before}
use Rattle.check_heap.proofs.scan.ScanFieldLemmas.{field_there}
use Rattle.check_heap.proofs.scan.ScanNeedLemmas.{need_field, increase}
use Rattle.cert_verify.specs.declared.certificate.verified.Why.{Why}
use Rattle.cert_verify.specs.declared.certificate.verified.Why.TheVariants.{Range, Unfit, Need, TwoTypes, Root, NotFault}
use Rattle.cert_verify.specs.certificate.Verified.{LacksNeed, IsAtTwoTypes, position_of}
use Rattle.cert_verify.specs.certificate.Testing.{HoldsNeed, HoldsAll, HoldsFirst, IsFirstMissing, IsElsewhere, IsSettled, IsRight, AreRight, IsWrongWith, IsFirstAt}

-- ---- positions of faults

-- The faults of one pair are ordered by kind, then by field.
pub at_one_pair :
    (i j c d c' d' : ℕ) → j ≡ i → IsLexicallyBefore (1 ∷ j ∷ c ∷ d ∷ []) (1 ∷ i ∷ c' ∷ d' ∷ []) → (c < c') ⊎ ((c ≡ c') × (d < d'))
at_one_pair i j c d c' d' same (inl less) = absurd (omega (arith, less))
at_one_pair i j c d c' d' same (inr (one, inl less)) = absurd (omega (arith, less, same))
at_one_pair i j c d c' d' same (inr (one, inr (two, inl less))) = inl less
at_one_pair i j c d c' d' same (inr (one, inr (two, inr (three, inl less)))) = inr (three, less)
at_one_pair i j c d c' d' same (inr (one, inr (two, inr (three, inr (four, never))))) = absurd never

module _ (table : Table) (graph : List Obj) (pairs : List (ℕ × ℕ)) where
  -- ---- required fields

  abbrev needs_of : ℕ → ℕ → List (ℕ × ℕ)
  needs_of o t = object_typed table graph o t

  pub need_is_held :
      (o t k i a : ℕ) → o < length graph → slice_get (object_typed table graph o t) k ≡ Some (i, a)
      → IsHeld (table_shapes table) graph pairs (field_at graph o i) a → HoldsNeed table graph pairs o (i, a)
  need_is_held o t k i a inside at_k held =
      let short = need_field table graph o t k i a inside at_k in
      subst (λ f. IsSomeAnd f (λ v. IsHeld (table_shapes table) graph pairs v a)) (sym (field_there graph o i inside short)) held

  pub held_more :
      (o t k i a : ℕ) (ns : List (ℕ × ℕ)) → needs_of o t ≡ ns → o < length graph → slice_get ns k ≡ Some (i, a) → HoldsFirst table graph pairs o ns k
      → (IsTrue (is_asked_in table a) → IsHeld (table_shapes table) graph pairs (field_at graph o i) a) → HoldsFirst table graph pairs o ns (k + 1)
  held_more o t k i a ns is inside at_k before held j i' a' less at_j asked = ⊎_elim
      (λ same. let one : ◌≡◌ {A = ℕ × ℕ} (i, a) (i', a') = same_Some (i, a) (i', a') (sym at_k ∙ (ap (slice_get ns) (sym same) ∙ at_j)) in
      subst (λ (need : ℕ × ℕ). IsTrue (is_asked_in table need.1) → HoldsNeed table graph pairs o need) one
      (λ also. need_is_held o t k i a inside (ap (λ ms. slice_get ms k) is ∙ at_k) (held also)) asked)
      (λ other. before j i' a' (smaller j other less) at_j asked)
      (same_or_not j k) where
        smaller : (j : ℕ) → (j ≡ k → ⊥) → j < k + 1 → j < k
        smaller j other less = ⊎_elim (λ one. one) (λ same. absurd (other same)) (below j k less) where
          below : (m n : ℕ) → m < n + 1 → (m < n) ⊎ (m ≡ n)
          below zero zero less = inr refl
          below zero (suc n) less = inl (omega arith)
          below (suc m) zero less = absurd (omega (arith, less))
          below (suc m) (suc n) less = ⊎_elim (λ one. inl (omega (arith, one))) (λ same. inr (ap suc same)) (below m n (omega (arith, less)))

  pub all_held :
      (o t n : ℕ) (ns : List (ℕ × ℕ)) → needs_of o t ≡ ns → length ns ≤ n → HoldsFirst table graph pairs o ns n → HoldsAll table graph pairs o t
  all_held o t n ns is many first i a among =
      let need = need_typed table graph (vals.Ref o) t i a among in
      let k = position_in ns (i, a) (subst (λ ms. Contains ms (i, a)) is need.0) in
      let inside = slice_get_within ns k.0 (i, a) k.1 in
      first k.0 i a (omega (arith, inside, many)) k.1 need.1

  pub missing_is :
      (o t k i a : ℕ) (ns : List (ℕ × ℕ)) → needs_of o t ≡ ns → o < length graph → slice_get ns k ≡ Some (i, a) → HoldsFirst table graph pairs o ns k
      → IsTrue (is_asked_in table a) → ¬ IsHeld (table_shapes table) graph pairs (field_at graph o i) a → IsFirstMissing table graph pairs o t i
  missing_is o t k i a ns is inside at_k before asked not_held =
      let at_need : slice_get (needs_of o t) k ≡ Some (i, a) = ap (λ ms. slice_get ms k) is ∙ at_k in
      let short = need_field table graph o t k i a inside at_need in
      record {
        lacks = record {
          type = a;
          needed = typed_needed table graph (vals.Ref o) t i a (slice_get-Contains (needs_of o t) k (i, a) at_need) asked;
          lacks = λ held. not_held (subst (λ f. IsSomeAnd f (λ v. IsHeld (table_shapes table) graph pairs v a)) (field_there graph o i inside short) held);
        };
        first = λ i' a' less among.
            let need = need_typed table graph (vals.Ref o) t i' a' among in
            let j = position_in ns (i', a') (subst (λ ms. Contains ms (i', a')) is need.0) in
            let earlier = position_before (needs_of o t) (increase table graph o t) j.0 k i' i a' a (ap (λ ms. slice_get ms j.0) is ∙ j.1) at_need less in
            before j.0 i' a' earlier j.1 need.1;
      }

  -- ---- one pair

  pub does_fit :
      (o t : ℕ) (shape : ShapeOf ℕ) (answer : Option Needs) (needs : Needs) → slice_get table.nodes t ≡ Some shape
      → option_map needs_in answer ≡ fields_of graph (vals.Ref o) shape → answer ≡ Some needs → (table_shapes table).fits graph (vals.Ref o) t
  does_fit o t shape answer needs at_type is some =
      subst IsSome (sym (ap (λ n. fields_of graph (vals.Ref o) (node_or_none n)) at_type ∙ (sym is ∙ ap (option_map needs_in) some))) refl

  pub not_elsewhere : (o t : ℕ) → ¬ IsElsewhere table pairs o t → (u : ℕ) → Contains pairs (o, u) → (table_shapes table).equal t u
  not_elsewhere o t none u among = ⊎_elim
      (λ same. same)
      (λ different. absurd (none (u, among, different)))
      (numbers_same_or_not (slice_get table.classes t) (slice_get table.classes u))

  pub mutable_is :
      (o t : ℕ) (shape : ShapeOf ℕ) (test : Bool) → slice_get table.nodes t ≡ Some shape → test ≡ is_mutable shape (slice_get graph o)
      → test ≡ is_mutable (node_or_none (slice_get table.nodes t)) (slice_get graph o)
  mutable_is o t shape test at_type is = is ∙ ap (λ n. is_mutable (node_or_none n) (slice_get graph o)) (sym at_type)

  -- Suppose the earlier pairs are right, and the pair before pair `i` has the same object at an
  -- equal type. Then no pair has that object at an unequal type.
  pub settled :
      AreLawful (table_shapes table) Everything → (i o t : ℕ) → AreRight table graph pairs i → (table_shapes table).mutable graph o t
      → slice_get pairs i ≡ Some (o, t) → IsSettled table pairs i
  settled lawful i o t right mutable at_i j p s u next at_j at_u equal elsewhere =
      let same : ◌≡◌ {A = ℕ × ℕ} (o, t) (p, u) = same_Some (o, t) (p, u) (sym at_i ∙ at_u) in
      let own = subst (λ (q : ℕ × ℕ). (table_shapes table).mutable graph q.0 q.1) same mutable in
      elsewhere.2
      ((right j (omega (arith, next)) (p, s) at_j).one_type elsewhere.0 elsewhere.1 (lawful.mutable graph p u s (inl tt) (sym equal) own))

  module _ (i : ℕ) (pair : ℕ × ℕ) (at_i : slice_get pairs i ≡ Some pair) where
    reported : (P : ℕ × ℕ → Type 0) → IsSomeAnd (slice_get pairs i) P → P pair
    reported P holds = subst (λ f. IsSomeAnd f P) at_i holds

    say : (P : ℕ × ℕ → Type 0) → P pair → IsSomeAnd (slice_get pairs i) P
    say P holds = IsSomeAnd-at (slice_get pairs i) pair P at_i holds

    pub right_is :
        (table_shapes table).fits graph (vals.Ref pair.0) pair.1 → HoldsAll table graph pairs pair.0 pair.1
        → ((u : ℕ) → Contains pairs (pair.0, u) → (table_shapes table).mutable graph pair.0 pair.1 → (table_shapes table).equal pair.1 u)
        → (p : ℕ × ℕ) → slice_get pairs i ≡ Some p → IsRight table graph pairs p
    right_is fits holds one_type p at =
        subst (λ q. IsRight table graph pairs q) (same_Some pair p (sym at_i ∙ at)) (record { fits = fits; holds = holds; one_type = one_type })

    pub unfit_is_first : ¬ (table_shapes table).fits graph (vals.Ref pair.0) pair.1 → IsFirstAt table graph pairs i (Unfit i)
    unfit_is_first unfit =
        record { is = (refl, say (λ p. ¬ (table_shapes table).fits graph (vals.Ref p.0) p.1) unfit); first = none } where
          none : (other : Why) → IsWrongWith table graph pairs i other → ¬ IsLexicallyBefore (position_of other) (position_of (Unfit i))
          none (Range j) wrong before = wrong
          none (Unfit j) wrong before = ⊎_elim (λ a. omega (arith, a)) (λ b. let c = b.1 in omega (arith, c)) (at_one_pair i j 0 0 0 0 wrong.0 before)
          none (Need j f) wrong before = ⊎_elim (λ a. omega (arith, a)) (λ b. let c = b.0 in omega (arith, c)) (at_one_pair i j 1 f 0 0 wrong.0 before)
          none (TwoTypes j) wrong before = ⊎_elim (λ a. omega (arith, a)) (λ b. let c = b.0 in omega (arith, c)) (at_one_pair i j 2 0 0 0 wrong.0 before)
          none Root wrong before = wrong
          none NotFault wrong before = wrong

    pub missing_is_first :
        (field : ℕ) → (table_shapes table).fits graph (vals.Ref pair.0) pair.1 → IsFirstMissing table graph pairs pair.0 pair.1 field
        → IsFirstAt table graph pairs i (Need i field)
    missing_is_first field fits missing = record { is = (refl, say (λ p. LacksNeed table graph pairs p field) missing.lacks); first = none } where
      earlier : (f : ℕ) → LacksNeed table graph pairs pair f → f < field → ⊥
      earlier f lacks less = lacks.lacks (missing.first f lacks.type less lacks.needed)

      none : (other : Why) → IsWrongWith table graph pairs i other → ¬ IsLexicallyBefore (position_of other) (position_of (Need i field))
      none (Range j) wrong before = wrong
      none (Unfit j) wrong before = reported (λ p. ¬ (table_shapes table).fits graph (vals.Ref p.0) p.1) wrong.1 fits
      none (Need j f) wrong before = ⊎_elim
          (λ a. omega (arith, a))
          (λ b. earlier f (reported (λ p. LacksNeed table graph pairs p f) wrong.1) b.1)
          (at_one_pair i j 1 f 1 field wrong.0 before)
      none (TwoTypes j) wrong before = ⊎_elim (λ a. omega (arith, a)) (λ b. let c = b.0 in omega (arith, c)) (at_one_pair i j 2 0 1 field wrong.0 before)
      none Root wrong before = wrong
      none NotFault wrong before = wrong

    pub two_is_first :
        (table_shapes table).fits graph (vals.Ref pair.0) pair.1 → HoldsAll table graph pairs pair.0 pair.1
        → IsTrue (is_mutable (node_or_none (slice_get table.nodes pair.1)) (slice_get graph pair.0)) → IsElsewhere table pairs pair.0 pair.1
        → IsFirstAt table graph pairs i (TwoTypes i)
    two_is_first fits holds mutable elsewhere = record {
      is = (
        refl,
        say (λ p. IsAtTwoTypes table graph pairs p)
            (record { mutable = (fits, mutable); other = elsewhere.0; among = elsewhere.1; unequal = elsewhere.2 }),
      );
      first = none;
    } where
      none : (other : Why) → IsWrongWith table graph pairs i other → ¬ IsLexicallyBefore (position_of other) (position_of (TwoTypes i))
      none (Range j) wrong before = wrong
      none (Unfit j) wrong before = reported (λ p. ¬ (table_shapes table).fits graph (vals.Ref p.0) p.1) wrong.1 fits
      none (Need j f) wrong before =
          let lacks = reported (λ p. LacksNeed table graph pairs p f) wrong.1 in
          lacks.lacks (holds f lacks.type lacks.needed)
      none (TwoTypes j) wrong before = ⊎_elim (λ a. omega (arith, a)) (λ b. let c = b.1 in omega (arith, c)) (at_one_pair i j 2 0 2 0 wrong.0 before)
      none Root wrong before = wrong
      none NotFault wrong before = wrong
