-- The certificate entry of a value gives the line that `check` prints for the value.
use Rattle.std.proofs.Common.{ℕ, ◌≡◌, true, false, List, inl, inr, refl, ap, subst}
use Rattle.base_data.specs.declared.model.value.Val.{Val}
use Rattle.base_data.specs.declared.model.value.Obj.{Obj}
use Rattle.types_spec.specs.declared.types.fault.Fault.{Fault}
use Rattle.types_spec.specs.declared.types.fault.Fault.TheVariants as faults
use Rattle.types_spec.specs.types.WellFormed.{AreWellFormed, IsSoundType}
use Rattle.types_spec.specs.types.Equal.{declared_shapes}
use Rattle.types_spec.specs.types.Fault.{IsFault}
use Rattle.types_spec.specs.types.LawfulShapes.{AreLawful, Everything}
use Rattle.types_spec.specs.types.Table.{Table, table_shapes}
use Rattle.types_spec.specs.types.TypeText.{type_text}
use Rattle.types_spec.specs.types.Typing.{HasType}
use Rattle.types_spec.specs.types.VerdictText.{IsFaultText}
use Rattle.types_theory.specs.equality.TableLaws.{TablesHaveTheFaults}
use Rattle.types_theory.proofs.equality.EqualityTableLemmas.{table_is_lawful}
use Rattle.types_theory.specs.table.TableDecides.{TheRootIsFirst, TablesDecide}
use Rattle.types_theory.proofs.equality.EqualitySoundLemmas.{known_by_hash}
use Rattle.cert_format.specs.declared.section.Section.{Section}
use Rattle.cert_format.specs.declared.section.Section.TheVariants as sections
use Rattle.cert_verify.specs.declared.certificate.verified.Verified.TheVariants.{Yes, No, Rejected}
use Rattle.cert_verify.specs.certificate.AcceptedEntry.{IsAccepted}
use Rattle.cert_verify.specs.certificate.Laws.{ReachedAreAccepted, RejectedAreNotAccepted}
use Rattle.cert_verify.specs.certificate.Verified.{IsVerified, fault_section}
use Rattle.cert_verify.specs.table_independence.ReachedTypes.{AnswersAtAreOne}
use Rattle.run_types.specs.Language.{TypeOver}
use Rattle.cmd_verify.specs.spec.Verification.{Shown, shows, rejects}
use Rattle.cmd_verify.specs.command.VerifiedSections.{Answers, ShowsFault, IsRejected, IsShownAt}
use Rattle.cmd_certify.specs.command.CertifiedOutput.{CertifiesType, CertifiesFault, IsSectionOf}
use Rattle.thm_certificates.specs.certified.ShownLines.{ShowsLine}

module _ (reached_accepted : ReachedAreAccepted) (not_accepted : RejectedAreNotAccepted)
    (answers : AnswersAtAreOne) (same_faults : TablesHaveTheFaults) (root_first : TheRootIsFirst)
    (decide : TablesDecide) (t : TypeOver) (ok : AreWellFormed t.decls)
    (sound : IsSoundType t.decls t.type) (graph : List Obj) (v : Val) where
  -- ---- a value that has the type

  -- If pairs certify that the value has the type, then the verifier's answer to the entry of the
  -- pairs is `Yes`.
  answers_yes :
      (pairs : List (ℕ × ℕ)) → CertifiesType t graph v pairs
      → Answers t (sections.Pairs pairs) graph v Yes
  answers_yes pairs h =
      let are = h.are in
      let lawful : AreLawful (table_shapes are.table) Everything =
      table_is_lawful t.decls ok.sound t.type are.types are.reached
      (known_by_hash t.decls ok t.type sound are.types are.reached) are.table are.made in
      let typed : HasType (table_shapes are.table) graph v 0 =
      (decide t.decls t.type are.types are.table (record {
        well = ok;
        sound = sound;
        reached = are.reached;
        made = are.made;
      }) graph v 0 t.type (root_first t.decls t.type are.types are.reached)).1 h.has in record {
        types = are.types;
        reached = are.reached;
        table = are.table;
        made = are.made;
        verified = inl (reached_accepted are.table lawful graph v pairs typed are.are, refl);
      }

  never_rejected :
      (pairs : List (ℕ × ℕ)) (reason : List ℕ) → CertifiesType t graph v pairs
      → IsRejected t (sections.Pairs pairs) graph v reason → ⊥
  never_rejected pairs reason h k =
      let e = answers t.decls t.type graph v (sections.Pairs pairs) Yes (Rejected k.why)
      (answers_yes pairs h) k.rejected in cc e

  -- ---- a value with a fault

  -- If paths are a fault of the value, then the entry of the fault is accepted.
  fault_accepted :
      (fault : Fault) (table : Table) → IsFault (table_shapes table) graph v 0 fault
      → IsAccepted table graph v (fault_section fault)
  fault_accepted (faults.Mismatch path) table is = is
  fault_accepted (faults.Conflict first second) table is = is

  fault_not_rejected :
      (fault : Fault) (reason : List ℕ) → CertifiesFault t graph v fault
      → IsRejected t (fault_section fault) graph v reason → ⊥
  fault_not_rejected fault reason h k = by k.rejected.verified where
    accepted : IsAccepted k.rejected.table graph v (fault_section fault)
    accepted =
        fault_accepted fault k.rejected.table
        ((same_faults t.decls k.rejected.types k.rejected.table k.rejected.made graph v 0 t.type
        (root_first t.decls t.type k.rejected.types k.rejected.reached) fault).1 h.least.is_fault)

    at : (stated : Fault) → Rejected k.why ≡ No stated → ⊥
    at stated e = cc e

    of : (fault : Fault) → IsVerified k.rejected.table graph v (fault_section fault) (Rejected k.why)
        → IsAccepted k.rejected.table graph v (fault_section fault) → ⊥
    of (faults.Mismatch path) (inl (other, is)) held = at (faults.Mismatch path) is
    of (faults.Conflict first second) (inl (other, is)) held = at (faults.Conflict first second) is
    of (faults.Mismatch path) (inr (why, first, is)) held =
        not_accepted k.rejected.table graph v (sections.Mismatch path) why first.is held
    of (faults.Conflict one two) (inr (why, first, is)) held =
        not_accepted k.rejected.table graph v (sections.Conflict one two) why first.is held

    by : IsVerified k.rejected.table graph v (fault_section fault) (Rejected k.why) → ⊥
    by verified = of fault verified accepted

  -- If the verifier's answer to the entry of a fault is `No`, then the answer states the fault of
  -- the entry.
  stated :
      (fault shown : Fault) → Answers t (fault_section fault) graph v (No shown) → shown ≡ fault
  stated (faults.Mismatch path) shown h = by h.verified where
    by : IsVerified h.table graph v (sections.Mismatch path) (No shown) → shown ≡ faults.Mismatch path
    by (inl (accepted, is)) = cc is
    by (inr (why, first, is)) = absurd (cc is)
  stated (faults.Conflict one two) shown h = by h.verified where
    by : IsVerified h.table graph v (sections.Conflict one two) (No shown) → shown ≡ faults.Conflict one two
    by (inl (accepted, is)) = cc is
    by (inr (why, first, is)) = absurd (cc is)

  module _ (fault : Fault) (h : CertifiesFault t graph v fault) (line : List ℕ)
      (k : ShowsFault t (fault_section fault) graph v line) where
    text_is : IsFaultText (declared_shapes t.decls) type_text graph v t.type fault k.text
    text_is =
        subst (λ f. IsFaultText (declared_shapes t.decls) type_text graph v t.type f k.text)
        (stated fault k.fault k.accepted) k.is_text

  -- ---- any entry

  pub section_shown :
      (section : Section) (shown : Shown) → IsSectionOf t graph v section
      → IsShownAt t section graph v shown → ShowsLine t graph v section shown
  section_shown (sections.Pairs pairs) (shows line true) h k = record {
    line = line;
    is = refl;
    outputs = inl (record {
      has = h.has;
      each = h.each;
      known = ap (λ text. record { text = text; ok = true }) k.is;
    });
  }
  section_shown (sections.Pairs pairs) (shows line false) h k = absurd (k.some_not h.each)
  section_shown (sections.Pairs pairs) (rejects reason) h k =
      absurd (never_rejected pairs reason h k)
  section_shown (sections.Mismatch path) (shows line true) h k = absurd (h.some_not k.each)
  section_shown (sections.Mismatch path) (shows line false) h k = record {
    line = line;
    is = refl;
    outputs = inr (record {
      why = record {
        fault = faults.Mismatch path;
        text = k.text;
        least = h.least;
        is_text = text_is (faults.Mismatch path) h line k;
        encoded = k.is;
      };
      some_not = h.some_not;
      is_all_ok = refl;
    });
  }
  section_shown (sections.Mismatch path) (rejects reason) h k =
      absurd (fault_not_rejected (faults.Mismatch path) reason h k)
  section_shown (sections.Conflict one two) (shows line true) h k = absurd (h.some_not k.each)
  section_shown (sections.Conflict one two) (shows line false) h k = record {
    line = line;
    is = refl;
    outputs = inr (record {
      why = record {
        fault = faults.Conflict one two;
        text = k.text;
        least = h.least;
        is_text = text_is (faults.Conflict one two) h line k;
        encoded = k.is;
      };
      some_not = h.some_not;
      is_all_ok = refl;
    });
  }
  section_shown (sections.Conflict one two) (rejects reason) h k =
      absurd (fault_not_rejected (faults.Conflict one two) reason h k)
