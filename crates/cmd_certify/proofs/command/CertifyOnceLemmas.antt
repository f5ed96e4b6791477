-- A value has only one certificate entry at a type.
use Rattle.std.proofs.Common.{ℕ, ◌≡◌, ◌∙◌, List, sym, ap}
use Rattle.base_data.specs.declared.model.value.Val.{Val}
use Rattle.base_data.specs.declared.model.value.Obj.{Obj}
use Rattle.types_spec.specs.declared.types.fault.Fault.{Fault}
use Rattle.types_spec.specs.declared.types.fault.Fault.TheVariants as faults
use Rattle.types_spec.specs.types.Equal.{declared_shapes}
use Rattle.types_theory.proofs.typing.TypingOnceLemmas.{least_once}
use Rattle.cert_format.specs.declared.section.Section.TheVariants as sections
use Rattle.cert_verify.specs.certificate.Verified.{fault_section}
use Rattle.cert_verify.specs.table_independence.ReachedTypes.{ReachedPairsAreOne}
use Rattle.run_spec.specs.runs.Lawful.{IsOnce}
use Rattle.run_types.specs.Language.{TypeOver}
use Rattle.cmd_certify.specs.command.CertifiedOutput.{CertifiesType, CertifiesFault, IsSectionOf, section_output, OutputsSection}

module _ (reached : ReachedPairsAreOne) (t : TypeOver) (graph : List Obj) (v : Val) where
  fault_once :
      (one other : Fault) → CertifiesFault t graph v one → CertifiesFault t graph v other
      → fault_section one ≡ fault_section other
  fault_once one other h k =
      ap fault_section
      (least_once (declared_shapes t.decls) graph v t.type one other h.least k.least)

  never_both :
      (pairs : List (ℕ × ℕ)) (fault : Fault) → CertifiesType t graph v pairs
      → CertifiesFault t graph v fault → ⊥
  never_both pairs fault h k = k.some_not h.each

  section_once : IsOnce (IsSectionOf t graph v)
  section_once (sections.Pairs pairs) (sections.Pairs others) h k =
      ap (λ pairs. sections.Pairs pairs)
      (reached t.decls t.type graph v pairs others h.are k.are)
  section_once (sections.Pairs pairs) (sections.Mismatch path) h k =
      absurd (never_both pairs (faults.Mismatch path) h k)
  section_once (sections.Pairs pairs) (sections.Conflict one two) h k =
      absurd (never_both pairs (faults.Conflict one two) h k)
  section_once (sections.Mismatch path) (sections.Pairs pairs) h k =
      absurd (never_both pairs (faults.Mismatch path) k h)
  section_once (sections.Conflict one two) (sections.Pairs pairs) h k =
      absurd (never_both pairs (faults.Conflict one two) k h)
  section_once (sections.Mismatch path) (sections.Mismatch other) h k =
      fault_once (faults.Mismatch path) (faults.Mismatch other) h k
  section_once (sections.Mismatch path) (sections.Conflict one two) h k =
      fault_once (faults.Mismatch path) (faults.Conflict one two) h k
  section_once (sections.Conflict one two) (sections.Mismatch path) h k =
      fault_once (faults.Conflict one two) (faults.Mismatch path) h k
  section_once (sections.Conflict one two) (sections.Conflict other more) h k =
      fault_once (faults.Conflict one two) (faults.Conflict other more) h k

  pub output_once : (number : ℕ) → IsOnce (OutputsSection t number graph v)
  output_once number output other (section, is, e) (section', is', e') =
      e ∙ (ap (section_output number) (section_once section section' is is') ∙ sym e')
