-- The verifier's result for an entry by the requested table is the result of the entry at the type.
use Rattle.std.proofs.Common.{ℕ, ◌≡◌, true, false, List, ◌++◌, Some, Result, Ok, Err, inl, inr, refl, sym, subst}
use Rattle.std.specs.Prelude.{codes, slice_get, IfOk}
use Rattle.base_data.specs.declared.model.value.Val.{Val}
use Rattle.base_data.specs.declared.model.value.Obj.{Obj}
use Rattle.types_spec.specs.declared.types.fault.Fault.{Fault}
use Rattle.types_spec.specs.declared.types.fault.Fault.TheVariants as faults
use Rattle.types_spec.specs.types.Equal.{declared_shapes}
use Rattle.types_spec.specs.types.Fault.{IsFault}
use Rattle.types_spec.specs.types.Table.{Table, table_shapes}
use Rattle.types_spec.specs.types.VerdictText.{IsFaultText}
use Rattle.types_theory.specs.equality.TableLaws.{TablesHaveTheFaults}
use Rattle.types_theory.specs.table.TableDecides.{TheRootIsFirst, TablesDecide, NeverBoth}
use Rattle.types_table.specs.type_table.Made.{types_of, table_of, IsLawful}
use Rattle.check_fault.specs.FaultText.{text_at}
use Rattle.check_fault.specs.Laws.{TextsAreOfTypes}
use Rattle.cert_format.specs.declared.section.Section.{Section}
use Rattle.cert_format.specs.declared.section.Section.TheVariants as sections
use Rattle.cert_verify.specs.declared.certificate.verified.Why.{Why}
use Rattle.cert_verify.specs.declared.certificate.verified.Verified.{Verified}
use Rattle.cert_verify.specs.declared.certificate.verified.Verified.TheVariants.{Yes, No, Rejected}
use Rattle.cert_verify.specs.certificate.Verified.{IsVerified}
use Rattle.cert_verify.proofs.certificate.VerifiedLemmas.{shown_is_so}
use Rattle.cli_spec.specs.Outcome.{line}
use Rattle.run_types.specs.declared.requested.Prepared.{Prepared}
use Rattle.run_types.specs.Language.{TypeOver}
use Rattle.run_types.specs.RequestedTexts.{type_over, IsReady}
use Rattle.run_types.proofs.RunTypesGivenLemmas.{ready_each, ready_some_not}
use Rattle.run_types.proofs.RunTypesVerdictLemmas.{is_first, made}
use Rattle.cmd_verify.specs.declared.command.verified_value.VerifiedValue.{VerifiedValue}
use Rattle.cmd_verify.specs.declared.command.verified_value.VerifiedValue.TheVariants.{Line, Uncertified}
use Rattle.cmd_verify.specs.command.VerifiedSections.{why_text, Answers}
use Rattle.cmd_verify.specs.command.Judged.{Judges, JudgesAt}

-- If an entry is accepted with a fault, then the entry states the fault.
stated_fault :
    (table : Table) (graph : List Obj) (root : Val) (section : Section) (fault : Fault)
    → IsVerified table graph root section (No fault)
    → IsFault (table_shapes table) graph root 0 fault
stated_fault table graph root section fault (inr (why, first, is)) = absurd (cc is)
stated_fault table graph root (sections.Pairs pairs) fault (inl (accepted, is)) = absurd (cc is)
stated_fault table graph root (sections.Mismatch path) fault (inl (accepted, is)) =
    let same : fault ≡ faults.Mismatch path = cc is in
    subst (IsFault (table_shapes table) graph root 0) (sym same) accepted
stated_fault table graph root (sections.Conflict one two) fault (inl (accepted, is)) =
    let same : fault ≡ faults.Conflict one two = cc is in
    subst (IsFault (table_shapes table) graph root 0) (sym same) accepted

module _ (r : Prepared) (ready : IsReady r) (graph : List Obj) (root : Val) (section : Section) where
  -- The verifier's result by the table that was built is the result at the type.
  answer_at :
      (verified : Verified) → IsVerified (table_of r.table) graph root section verified
      → Answers (type_over r) section graph root verified
  answer_at verified is = record {
    types = types_of r.table;
    reached = ready.made.reached;
    table = table_of r.table;
    made = ready.made.made;
    verified = is;
  }

  pub stated :
      (fault : Fault) → IsVerified (table_of r.table) graph root section (No fault)
      → IsFault (table_shapes (table_of r.table)) graph root 0 fault
  stated fault is = stated_fault (table_of r.table) graph root section fault is

  module _ (root_first : TheRootIsFirst) where
    -- If the verifier returns `Yes`, then the output is `yes`.
    pub judged_yes :
        IsLawful (table_of r.table) → TablesDecide → (verified : Verified) → verified ≡ Yes
        → IsVerified (table_of r.table) graph root section verified
        → (text : List ℕ) → text ≡ codes "yes\n"
        → Judges (type_over r) section graph root (Line text true)
    judged_yes lawful decide verified same is text encoded =
        let yes : IsVerified (table_of r.table) graph root section Yes =
        subst (IsVerified (table_of r.table) graph root section) same is in
        let has = (decide r.decls r.ty (types_of r.table) (table_of r.table)
        (made r ready root_first graph root) graph root 0 r.ty
        (is_first r ready root_first graph root)).0
        (shown_is_so (table_of r.table) lawful.lawful graph root section Yes yes) in (
          codes "yes",
          record {
            accepted = answer_at Yes yes;
            has = has;
            each = ready_each r ready graph root has;
            is = refl;
          },
          encoded,
        )

    -- If the verifier returns a fault, then the output is `no` with the fault.
    pub judged_no :
        TablesHaveTheFaults → TextsAreOfTypes → NeverBoth → (fault : Fault)
        → IsVerified (table_of r.table) graph root section (No fault) → (why : List ℕ)
        → IsFaultText (table_shapes (table_of r.table)) (text_at r.table) graph root 0 fault why
        → (text : List ℕ) → text ≡ line (codes "no " ++ why)
        → Judges (type_over r) section graph root (Line text false)
    judged_no have_faults of_types never fault is why is_text text encoded =
        let declared : IsFault (declared_shapes r.decls) graph root r.ty fault =
        (have_faults r.decls (types_of r.table) (table_of r.table) ready.made.made graph root 0 r.ty
        (is_first r ready root_first graph root) fault).0 (stated fault is) in (
          codes "no " ++ why,
          record {
            fault = fault;
            accepted = answer_at (No fault) is;
            is_fault = declared;
            has_not = never r.decls r.ty (types_of r.table) ready.ok ready.sound ready.made.reached
                graph root fault declared;
            some_not = ready_some_not r ready graph root fault declared;
            text = why;
            is_text = of_types r.decls r.ty r.table ready.made graph root fault why is_text;
            is = refl;
          },
          encoded,
        )

  -- If the verifier rejects the entry, then the value is not certified for this reason.
  pub judged_rejected :
      (verified : Verified) (why : Why) → verified ≡ Rejected why
      → IsVerified (table_of r.table) graph root section verified
      → (text : List ℕ) → text ≡ codes "certificate " ++ why_text why
      → Judges (type_over r) section graph root (Uncertified text)
  judged_rejected verified why same is text encoded = (
    why_text why,
    record {
      why = why;
      rejected = answer_at (Rejected why)
          (subst (IsVerified (table_of r.table) graph root section) same is);
      is = refl;
    },
    encoded,
  )

-- ---- by the number of the entry

module _ (t : TypeOver) (all : List Section) (number : ℕ) (graph : List Obj) (root : Val) where
  pub judged_at :
      (section : Section) → slice_get all number ≡ Some section → (judged : VerifiedValue)
      → Judges t section graph root judged → JudgesAt t all number graph root judged
  judged_at section at (Line text ok) (output, shown, is) = (output, (section, at, shown), is)
  judged_at section at (Uncertified reason) (why, shown, is) =
      inr (why, (section, at, shown), is)

  pub judged_ok :
      {E : Type 0} (section : Section) → slice_get all number ≡ Some section
      → (result : Result VerifiedValue E) → IfOk result (Judges t section graph root)
      → IfOk result (JudgesAt t all number graph root)
  judged_ok section at (Ok judged) h = judged_at section at judged h
  judged_ok section at (Err e) h = h
