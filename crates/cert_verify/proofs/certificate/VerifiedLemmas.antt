-- No entry is accepted and also rejected, and each entry has one answer.
use Rattle.std.proofs.Common.{ℕ, ◌≡◌, ◌∙◌, ◌<◌, ◌⊎◌, inl, inr, List, length, Option, Some, None, Result, Ok, Err, refl, sym, ap, subst, arith}
use Rattle.std.specs.Prelude.{slice_get, IsSome, IsSomeAnd, IfOk, option_and_then}
use Rattle.std.proofs.lemmas.Bool.{false≢true}
use Rattle.std.proofs.lemmas.Option.{slice_get_within}
use Rattle.base_data.proofs.model.Options.{slice_get-Contains, IsSomeAnd-some, none_or_some}
use Rattle.base_data.specs.declared.model.value.Val.{Val}
use Rattle.base_data.specs.declared.model.value.Val.TheVariants as vals
use Rattle.base_data.specs.declared.model.value.Obj.{Obj}
use Rattle.base_data.specs.declared.model.value.Obj.TheVariants as objects
use Rattle.types_spec.specs.declared.types.shape.ShapeOf.{ShapeOf}
use Rattle.types_spec.specs.declared.types.shape.ShapeOf.TheVariants as shapes
use Rattle.types_spec.specs.types.Fitting.{object_fields, fields_of}
use Rattle.types_spec.specs.types.Table.{Table, table_shapes, node_or_none}
use Rattle.types_spec.specs.types.Fault.{IsBefore}
use Rattle.types_spec.specs.declared.types.fault.Fault.TheVariants as faults
use Rattle.types_spec.specs.types.LawfulShapes.{AreLawful, Everything}
use Rattle.types_spec.proofs.types.TypeFaultLemmas.{fault_excludes_type}
use Rattle.types_theory.proofs.typing.TypingPathLemmas.{OneOfThree, paths_compare}
use Rattle.cert_format.specs.declared.section.Section.{Section}
use Rattle.cert_format.specs.declared.section.Section.TheVariants as sections
use Rattle.cert_verify.specs.declared.certificate.verified.Why.{Why}
use Rattle.cert_verify.specs.declared.certificate.verified.Why.TheVariants.{Range, Unfit, Need, TwoTypes, Root, NotFault}
use Rattle.cert_verify.specs.declared.certificate.verified.Verified.{Verified}
use Rattle.cert_verify.specs.declared.certificate.verified.Verified.TheVariants.{Rejected}
use Rattle.cert_verify.specs.certificate.AcceptedEntry.{AreAccepted, IsAccepted}
use Rattle.cert_verify.specs.certificate.Verified.{IsThere, LacksNeed, IsAtTwoTypes, IsWrong, IsWhy, position_of, IsFirstWhy, IsVerified, Shows, IsOneAnswer}
use Rattle.cert_verify.proofs.certificate.EntryAcceptedLemmas.{accepted_has_type}

-- ---- what fits exists

graph_has : (graph : List Obj) (o : ℕ) (f : Obj → Option (List (ℕ × ℕ))) → IsSome (option_and_then f (slice_get graph o)) → o < length graph
graph_has graph o f fits = by_object (none_or_some (slice_get graph o)) where
  by_object : (slice_get graph o ≡ None) ⊎ ((x : Obj) × (slice_get graph o ≡ Some x)) → o < length graph
  by_object (inl none) = absurd (false≢true (subst (λ found. IsSome (option_and_then f found)) none fits))
  by_object (inr (x, at)) = slice_get_within graph o x at

-- No object fits the shape of a type number that is not in the table.
no_object : (object : Obj) → ¬ IsSome (object_fields {T = ℕ} shapes.Variable object)
no_object (objects.Block tag values) fits = false≢true fits
no_object (objects.Bytes bytes) fits = false≢true fits
no_object (objects.Double bits) fits = false≢true fits
no_object (objects.Doubles all) fits = false≢true fits
no_object (objects.I32 z) fits = false≢true fits
no_object (objects.I64 z) fits = false≢true fits
no_object (objects.Native z) fits = false≢true fits

no_reference : (graph : List Obj) (o : ℕ) → ¬ IsSome (option_and_then (object_fields {T = ℕ} shapes.Variable) (slice_get graph o))
no_reference graph o fits = by_object (none_or_some (slice_get graph o)) where
  by_object : (slice_get graph o ≡ None) ⊎ ((x : Obj) × (slice_get graph o ≡ Some x)) → ⊥
  by_object (inl none) = false≢true (subst (λ found. IsSome (option_and_then (object_fields {T = ℕ} shapes.Variable) found)) none fits)
  by_object (inr (x, at)) = no_object x (subst (λ found. IsSome (option_and_then (object_fields {T = ℕ} shapes.Variable) found)) at fits)

pub table_has : (table : Table) (graph : List Obj) (o t : ℕ) → (table_shapes table).fits graph (vals.Ref o) t → t < length table.nodes
table_has table graph o t fits = by_node (none_or_some (slice_get table.nodes t)) where
  by_node : (slice_get table.nodes t ≡ None) ⊎ ((x : ShapeOf ℕ) × (slice_get table.nodes t ≡ Some x)) → t < length table.nodes
  by_node (inl none) = absurd (no_reference graph o (subst (λ found. IsSome (fields_of graph (vals.Ref o) (node_or_none found))) none fits))
  by_node (inr (x, at)) = slice_get_within table.nodes t x at

fitting_is_there : (table : Table) (graph : List Obj) (pair : ℕ × ℕ) → (table_shapes table).fits graph (vals.Ref pair.0) pair.1 → IsThere table graph pair
fitting_is_there table graph pair fits =
    (graph_has graph pair.0 (object_fields (node_or_none (slice_get table.nodes pair.1))) fits, table_has table graph pair.0 pair.1 fits)

-- ---- faults of accepted pairs

-- If an option has a value with a property, then not every value of the option lacks the property.
at_some : {A : Type 0} (o : Option A) (P : A → Type 0) → IsSomeAnd o P → ((x : A) → o ≡ Some x → ¬ P x) → ⊥
at_some o P holds never = let x = IsSomeAnd-some o P holds in never x.0 x.1 x.2

module _ (table : Table) (graph : List Obj) (root : Val) where
  nothing_wrong : (pairs : List (ℕ × ℕ)) → AreAccepted (table_shapes table) graph root 0 pairs → (why : Why) → ¬ IsWrong table graph root pairs why
  nothing_wrong pairs accepted (Range i) wrong =
      at_some (slice_get pairs i) (λ pair. ¬ IsThere table graph pair) wrong
      (λ pair at out. out (fitting_is_there table graph pair (accepted.typing.fits pair.0 pair.1 (slice_get-Contains pairs i pair at))))
  nothing_wrong pairs accepted (Unfit i) wrong =
      at_some (slice_get pairs i) (λ pair. ¬ (table_shapes table).fits graph (vals.Ref pair.0) pair.1) wrong
      (λ pair at unfit. unfit (accepted.typing.fits pair.0 pair.1 (slice_get-Contains pairs i pair at)))
  nothing_wrong pairs accepted (Need i field) wrong =
      at_some (slice_get pairs i) (λ pair. LacksNeed table graph pairs pair field) wrong
      (λ pair at lacks. lacks.lacks (accepted.typing.held pair.0 pair.1 field lacks.type (slice_get-Contains pairs i pair at) lacks.needed))
  nothing_wrong pairs accepted (TwoTypes i) wrong =
      at_some (slice_get pairs i) (λ pair. IsAtTwoTypes table graph pairs pair) wrong
      (λ pair at two. two.unequal (accepted.typing.one_type pair.0 pair.1 two.other (slice_get-Contains pairs i pair at) two.among two.mutable))
  nothing_wrong pairs accepted Root wrong = wrong accepted.held
  nothing_wrong pairs accepted NotFault wrong = wrong

  pub never_both : (section : Section) (why : Why) → IsWhy table graph root section why → ¬ IsAccepted table graph root section
  never_both (sections.Pairs pairs) why wrong accepted = nothing_wrong pairs accepted why wrong
  never_both (sections.Mismatch path) why wrong accepted = wrong.1 accepted
  never_both (sections.Conflict first second) why wrong accepted = wrong.1 accepted

-- ---- uniqueness of answers

-- If two faults have the same position, then they are equal.
pub same_position : (one other : Why) → position_of one ≡ position_of other → one ≡ other
same_position (Range i) (Range j) is = cc
same_position (Range i) (Unfit j) is = cc
same_position (Range i) (Need j g) is = cc
same_position (Range i) (TwoTypes j) is = cc
same_position (Range i) Root is = cc
same_position (Range i) NotFault is = cc
same_position (Unfit i) (Range j) is = cc
same_position (Unfit i) (Unfit j) is = cc
same_position (Unfit i) (Need j g) is = cc
same_position (Unfit i) (TwoTypes j) is = cc
same_position (Unfit i) Root is = cc
same_position (Unfit i) NotFault is = cc
same_position (Need i f) (Range j) is = cc
same_position (Need i f) (Unfit j) is = cc
same_position (Need i f) (Need j g) is = cc
same_position (Need i f) (TwoTypes j) is = cc
same_position (Need i f) Root is = cc
same_position (Need i f) NotFault is = cc
same_position (TwoTypes i) (Range j) is = cc
same_position (TwoTypes i) (Unfit j) is = cc
same_position (TwoTypes i) (Need j g) is = cc
same_position (TwoTypes i) (TwoTypes j) is = cc
same_position (TwoTypes i) Root is = cc
same_position (TwoTypes i) NotFault is = cc
same_position Root (Range j) is = cc
same_position Root (Unfit j) is = cc
same_position Root (Need j g) is = cc
same_position Root (TwoTypes j) is = cc
same_position Root Root is = refl
same_position Root NotFault is = cc
same_position NotFault (Range j) is = cc
same_position NotFault (Unfit j) is = cc
same_position NotFault (Need j g) is = cc
same_position NotFault (TwoTypes j) is = cc
same_position NotFault Root is = cc
same_position NotFault NotFault is = refl

-- Each position has four numbers.
four : (why : Why) → length (position_of why) ≡ 4
four (Range i) = refl
four (Unfit i) = refl
four (Need i f) = refl
four (TwoTypes i) = refl
four Root = refl
four NotFault = refl

module _ (table : Table) (graph : List Obj) (root : Val) (section : Section) where
  first_is_one : (one other : Why) → IsFirstWhy table graph root section one → IsFirstWhy table graph root section other → one ≡ other
  first_is_one one other is its = at (paths_compare (position_of one) (position_of other)) where
    one_length : length (position_of one) ≡ length (position_of other)
    one_length = four one ∙ sym (four other)

    at : OneOfThree (IsBefore (position_of one) (position_of other)) (position_of one ≡ position_of other) (IsBefore (position_of other) (position_of one)) → one ≡ other
    at (inl (inl shorter)) = absurd (omega (arith, shorter, one_length))
    at (inl (inr before)) = absurd (its.first one is.is before.1)
    at (inr (inl same)) = same_position one other same
    at (inr (inr (inl shorter))) = absurd (omega (arith, shorter, one_length))
    at (inr (inr (inr after))) = absurd (is.first other its.is after.1)

  pub one_answer : (one other : Verified) → IsVerified table graph root section one → IsVerified table graph root section other → one ≡ other
  one_answer one other (inl a) (inl b) = a.1 ∙ sym b.1
  one_answer one other (inl a) (inr b) = absurd (never_both table graph root section b.0 b.1.is a.0)
  one_answer one other (inr a) (inl b) = absurd (never_both table graph root section a.0 a.1.is b.0)
  one_answer one other (inr a) (inr b) = a.2 ∙ (ap Rejected (first_is_one a.0 b.0 a.1 b.1) ∙ sym b.2)

-- ---- what an answer proves

pub shown_is_so :
    (table : Table) → AreLawful (table_shapes table) Everything
    → (graph : List Obj) (root : Val) (section : Section) (answer : Verified) → IsVerified table graph root section answer
    → Shows table graph root answer
shown_is_so table lawful graph root (sections.Pairs pairs) answer (inl (accepted, is)) =
    subst (Shows table graph root) (sym is) (accepted_has_type (table_shapes table) lawful graph root 0 pairs accepted)
shown_is_so table lawful graph root (sections.Mismatch path) answer (inl (fault, is)) =
    subst (Shows table graph root) (sym is)
    (λ has. fault_excludes_type (table_shapes table) Everything lawful graph root 0 (faults.Mismatch path) tt fault has)
shown_is_so table lawful graph root (sections.Conflict first second) answer (inl (fault, is)) =
    subst (Shows table graph root) (sym is)
    (λ has. fault_excludes_type (table_shapes table) Everything lawful graph root 0 (faults.Conflict first second) tt fault has)
shown_is_so table lawful graph root (sections.Pairs pairs) answer (inr (why, reason, is)) = subst (Shows table graph root) (sym is) tt
shown_is_so table lawful graph root (sections.Mismatch path) answer (inr (why, reason, is)) = subst (Shows table graph root) (sym is) tt
shown_is_so table lawful graph root (sections.Conflict first second) answer (inr (why, reason, is)) = subst (Shows table graph root) (sym is) tt

if_ok_more : {A E : Type 0} (r : Result A E) (P Q : A → Type 0) → ((x : A) → P x → Q x) → IfOk r P → IfOk r Q
if_ok_more (Ok x) P Q more holds = more x holds
if_ok_more (Err e) P Q more holds = holds

module _ (table : Table) (graph : List Obj) (root : Val) (section : Section) where
  pub answers_show :
      {E : Type 0} (r : Result Verified E) → AreLawful (table_shapes table) Everything → IfOk r (IsVerified table graph root section)
      → IfOk r (Shows table graph root)
  answers_show r lawful is =
      if_ok_more r (IsVerified table graph root section) (Shows table graph root) (λ answer one. shown_is_so table lawful graph root section answer one) is

  pub answers_are_single :
      {E : Type 0} (r : Result Verified E) → IfOk r (IsVerified table graph root section) → IfOk r (IsOneAnswer table graph root section)
  answers_are_single r is =
      if_ok_more r (IsVerified table graph root section) (IsOneAnswer table graph root section)
      (λ answer one other its. one_answer table graph root section other answer its one) is
