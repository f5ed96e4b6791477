-- A certificate has only one reading, and an entry has only one result for a value at a type.
use Rattle.std.proofs.Common.{ℕ, ◌≡◌, ◌∙◌, true, false, List, ◌++◌, Ok, Err, sym, ap, subst}
use Rattle.std.specs.Prelude.{codes}
use Rattle.base_data.specs.declared.model.value.Val.{Val}
use Rattle.base_data.specs.declared.model.value.Obj.{Obj}
use Rattle.types_spec.specs.declared.types.fault.Fault.{Fault}
use Rattle.types_spec.specs.types.Equal.{declared_shapes}
use Rattle.types_spec.specs.types.TypeText.{type_text}
use Rattle.types_spec.specs.types.VerdictText.{IsFaultText}
use Rattle.types_theory.proofs.typing.TypingOnceLemmas.{fault_text_once}
use Rattle.cert_format.specs.declared.section.Section.{Section}
use Rattle.cert_format.specs.Laws.{SectionsAreOne, CertificatesHaveNoFault, FaultsAreOne}
use Rattle.cert_verify.specs.declared.certificate.verified.Verified.{Verified}
use Rattle.cert_verify.specs.declared.certificate.verified.Verified.TheVariants.{Yes, No, Rejected}
use Rattle.cert_verify.specs.table_independence.ReachedTypes.{AnswersAtAreOne}
use Rattle.run_spec.specs.runs.Lawful.{IsOnce}
use Rattle.run_types.specs.Language.{TypeOver}
use Rattle.cmd_verify.specs.spec.Verification.{shows, rejects}
use Rattle.cmd_verify.specs.command.VerifiedSections.{why_text, Answers, IsShownAt, reads_sections}

pub sections_once :
    SectionsAreOne → CertificatesHaveNoFault → FaultsAreOne → (text : List ℕ)
    → IsOnce (reads_sections text)
sections_once one none first text (Ok all) (Ok others) h k = ap Ok (one text all others h k)
sections_once one none first text (Ok all) (Err line) h k = absurd (none text all line h k)
sections_once one none first text (Err line) (Ok all) h k = absurd (none text all line k h)
sections_once one none first text (Err m) (Err n) h k = ap Err (first text m n h k)

module _ (answers : AnswersAtAreOne) (t : TypeOver) (section : Section) (graph : List Obj)
    (v : Val) where
  one : (a b : Verified) → Answers t section graph v a → Answers t section graph v b → a ≡ b
  one = answers t.decls t.type graph v section

  yes_or_no : (fault : Fault) → Yes ≡ No fault → ⊥
  yes_or_no fault e = cc e

  pub shown_once : IsOnce (IsShownAt t section graph v)
  shown_once (shows line true) (shows other true) h k =
      ap (λ l. shows l true) (h.is ∙ sym k.is)
  shown_once (shows line true) (shows other false) h k =
      absurd (yes_or_no k.fault (one Yes (No k.fault) h.accepted k.accepted))
  shown_once (shows line false) (shows other true) h k =
      absurd (yes_or_no h.fault (one Yes (No h.fault) k.accepted h.accepted))
  shown_once (shows line false) (shows other false) h k =
      let both = one (No h.fault) (No k.fault) h.accepted k.accepted in
      let same : h.fault ≡ k.fault = cc both in
      let text = fault_text_once (declared_shapes t.decls) graph v t.type type_text k.fault h.text
      k.text
      (subst (λ f. IsFaultText (declared_shapes t.decls) type_text graph v t.type f h.text) same
      h.is_text) k.is_text in
      ap (λ l. shows l false) (h.is ∙ (ap (λ text. codes "no " ++ text) text ∙ sym k.is))
  shown_once (shows line true) (rejects reason) h k =
      let e = one Yes (Rejected k.why) h.accepted k.rejected in absurd (cc e)
  shown_once (shows line false) (rejects reason) h k =
      let e = one (No h.fault) (Rejected k.why) h.accepted k.rejected in absurd (cc e)
  shown_once (rejects reason) (shows line true) h k =
      let e = one Yes (Rejected h.why) k.accepted h.rejected in absurd (cc e)
  shown_once (rejects reason) (shows line false) h k =
      let e = one (No k.fault) (Rejected h.why) k.accepted h.rejected in absurd (cc e)
  shown_once (rejects reason) (rejects other) h k =
      let both = one (Rejected h.why) (Rejected k.why) h.rejected k.rejected in
      let same : h.why ≡ k.why = cc both in
      ap rejects (h.is ∙ (ap why_text same ∙ sym k.is))
