-- The entry of a value by the requested table is the entry of the value at the type.
use Rattle.std.proofs.Common.{ℕ, ◌≡◌, Bool, List, ap₂}
use Rattle.base_data.specs.declared.model.value.Val.{Val}
use Rattle.base_data.specs.declared.model.value.Obj.{Obj}
use Rattle.types_spec.specs.declared.types.fault.Fault.{Fault}
use Rattle.types_spec.specs.declared.types.fault.Fault.TheVariants as faults
use Rattle.types_spec.specs.types.LeastFault.{IsLeastFault}
use Rattle.types_spec.specs.types.Table.{table_shapes}
use Rattle.types_theory.specs.equality.TableLaws.{TablesHaveTheLeastFault}
use Rattle.types_theory.specs.table.TableDecides.{TheRootIsFirst, TablesDecide}
use Rattle.types_table.specs.type_table.Made.{types_of, table_of}
use Rattle.cert_format.specs.declared.section.Section.{Section}
use Rattle.cert_format.specs.declared.section.Section.TheVariants as sections
use Rattle.cert_format.specs.Format.{section_text}
use Rattle.cert_produce.specs.CertifiedVerdict.{IsCertified}
use Rattle.cli_spec.specs.Outcome.{Output}
use Rattle.run_types.specs.declared.requested.Prepared.{Prepared}
use Rattle.run_types.specs.RequestedTexts.{type_over, IsReady}
use Rattle.run_types.proofs.RunTypesGivenLemmas.{ready_each, ready_some_not}
use Rattle.run_types.proofs.RunTypesVerdictLemmas.{is_first, made}
use Rattle.cmd_certify.specs.command.CertifiedOutput.{CertifiesFault, IsSectionOf, is_yes, section_output}

-- If the text is the entry's text, and `ok` states whether the entry is a `yes`, then text and `ok`
-- are the output.
pub output_of :
    (number : ℕ) (section : Section) (text : List ℕ) (ok : Bool)
    → text ≡ section_text number section → ok ≡ is_yes section
    → record { text = text; ok = ok } ≡ section_output number section
output_of number section text ok is same =
    ap₂ (λ (text : List ℕ) (ok : Bool). output text ok) is same where
      output : List ℕ → Bool → Output
      output text ok = record { text = text; ok = ok }

module _ (r : Prepared) (ready : IsReady r) (graph : List Obj) (root : Val)
    (root_first : TheRootIsFirst) (decide : TablesDecide) (same_faults : TablesHaveTheLeastFault)
  where
    least_is :
        (fault : Fault) → IsLeastFault (table_shapes (table_of r.table)) graph root 0 fault
        → CertifiesFault (type_over r) graph root fault
    least_is fault least =
        let declared = (same_faults r.decls (types_of r.table) (table_of r.table) ready.made.made graph
        root 0 r.ty (is_first r ready root_first graph root) fault).0 least in record {
          least = declared;
          some_not = ready_some_not r ready graph root fault declared.is_fault;
        }

    pub section_is :
        (section : Section) → IsCertified (table_of r.table) graph root section
        → IsSectionOf (type_over r) graph root section
    section_is (sections.Pairs pairs) (typed, reached) =
        let has = (decide r.decls r.ty (types_of r.table) (table_of r.table)
        (made r ready root_first graph root) graph root 0 r.ty
        (is_first r ready root_first graph root)).0 typed in record {
          has = has;
          each = ready_each r ready graph root has;
          are = record {
            types = types_of r.table;
            reached = ready.made.reached;
            table = table_of r.table;
            made = ready.made.made;
            are = reached;
          };
        }
    section_is (sections.Mismatch path) least = least_is (faults.Mismatch path) least
    section_is (sections.Conflict first second) least = least_is (faults.Conflict first second) least
