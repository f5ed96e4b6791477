-- A value has at most one least fault at a type, and a fault has at most one text.
use Rattle.std.proofs.Common.{ℕ, ◌≡◌, ◌∙◌, inl, inr, List, Some, sym, ap, ◌++◌}
use Rattle.std.specs.Prelude.{codes}
use Rattle.std.proofs.lemmas.Option.{same_Some}
use Rattle.base_data.specs.declared.model.value.Val.{Val}
use Rattle.base_data.specs.declared.model.value.Obj.{Obj}
use Rattle.types_spec.specs.declared.types.fault.Fault.{Fault}
use Rattle.types_spec.specs.declared.types.fault.Fault.TheVariants.{Mismatch, Conflict}
use Rattle.types_spec.specs.types.Shapes.{Shapes}
use Rattle.types_spec.specs.types.Fault.{value_at, IsBefore}
use Rattle.types_spec.specs.types.LeastFault.{IsKnownBefore, IsLeastFault}
use Rattle.types_spec.specs.types.VerdictText.{mismatch_text, conflict_text, IsFaultText, IsNoLine}
use Rattle.types_theory.proofs.typing.TypingPathLemmas.{OneOfThree, paths_compare}

-- Of two faults, one fault is reported before the other fault, or the two faults are equal.
faults_compare : (one other : Fault) → OneOfThree (IsKnownBefore one other) (one ≡ other) (IsKnownBefore other one)
faults_compare (Mismatch p) (Mismatch q) = at (paths_compare p q) where
  at : OneOfThree (IsBefore p q) (p ≡ q) (IsBefore q p) → OneOfThree (IsBefore p q) (Mismatch p ≡ Mismatch q) (IsBefore q p)
  at (inl before) = inl before
  at (inr (inl same)) = inr (inl (ap Mismatch same))
  at (inr (inr after)) = inr (inr after)
faults_compare (Mismatch p) (Conflict first second) = inl tt
faults_compare (Conflict first second) (Mismatch p) = inr (inr tt)
faults_compare (Conflict first second) (Conflict one other) = at (paths_compare second other) (paths_compare first one) where
  at : OneOfThree (IsBefore second other) (second ≡ other) (IsBefore other second) → OneOfThree (IsBefore first one) (first ≡ one) (IsBefore one first)
      → OneOfThree (IsKnownBefore (Conflict first second) (Conflict one other)) (Conflict first second ≡ Conflict one other) (IsKnownBefore (Conflict one other) (Conflict first second))
  at (inl before) rest = inl (inl before)
  at (inr (inr after)) rest = inr (inr (inl after))
  at (inr (inl same)) (inl before) = inl (inr (same, before))
  at (inr (inl same)) (inr (inr after)) = inr (inr (inr (sym same, after)))
  at (inr (inl same)) (inr (inl equal)) = inr (inl (ap (λ p. Conflict p second) equal ∙ ap (λ q. Conflict one q) same))

module _ {T : Type 0} (shapes : Shapes T) (graph : List Obj) (v : Val) (t : T) where
  -- A value has at most one least fault at a type.
  pub least_once : (one other : Fault) → IsLeastFault shapes graph v t one → IsLeastFault shapes graph v t other → one ≡ other
  least_once one other is its = at (faults_compare one other) where
    at : OneOfThree (IsKnownBefore one other) (one ≡ other) (IsKnownBefore other one) → one ≡ other
    at (inl before) = absurd (its.least one is.is_fault before)
    at (inr (inl same)) = same
    at (inr (inr after)) = absurd (is.least other its.is_fault after)

  module _ (type_text : T → List ℕ) where
    one_position : (path : List ℕ) (v1 v2 : Val) (t1 t2 : T) → value_at shapes graph v t path ≡ Some (v1, t1) → value_at shapes graph v t path ≡ Some (v2, t2) → ◌≡◌ {A = Val × T} (v1, t1) (v2, t2)
    one_position path v1 v2 t1 t2 one other = same_Some (v1, t1) (v2, t2) (sym one ∙ other)

    -- A fault has at most one text.
    pub fault_text_once : (fault : Fault) (text other : List ℕ) → IsFaultText shapes type_text graph v t fault text → IsFaultText shapes type_text graph v t fault other → text ≡ other
    fault_text_once (Mismatch path) text other (w, u, at, is) (w', u', at', is') =
        is ∙ (ap (λ (p : Val × T). mismatch_text type_text graph path p.0 p.1) (one_position path w w' u u' at at') ∙ sym is')
    fault_text_once (Conflict first second) text other (o, one, two, at, at2, is) (o', one', two', at', at2', is') =
        is ∙ (ap (λ (p : Val × T). conflict_text type_text first p.1 second two) (one_position first o o' one one' at at')
        ∙ (ap (λ (p : Val × T). conflict_text type_text first one' second p.1) (one_position second o o' two two' at2 at2') ∙ sym is'))

    -- A value has at most one line that reports a fault.
    pub no_line_once : (line other : List ℕ) → IsNoLine shapes type_text graph v t line → IsNoLine shapes type_text graph v t other → line ≡ other
    no_line_once line other one two =
        let same = least_once one.fault two.fault one.least two.least in
        let text = fault_text_once two.fault one.text two.text (rw (← same) one.is_text) two.is_text in
        one.encoded ∙ (ap (λ t. codes "no " ++ t) text ∙ sym two.encoded)
