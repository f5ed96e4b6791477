use Rattle.std.proofs.Common.{◌∙◌, sym}
use Rattle.std.proofs.lemmas.Bool.{false≢true}
use Rattle.types_table.specs.type_table.Made.{table_of}
use Rattle.cert_verify.proofs.certificate.EntryJudgeLemmas.{fault_rejected}
use Rattle.cert_verify.proofs.certificate.entry_verdict.verify_fault.Goals as goal

pub returns-else-is_fault : goal.returns-else-is_fault
returns-else-is_fault c =
    fault_rejected (table_of c.args.table.now) c.args.value.now.heap.now c.args.value.now.root c.args.fault (λ fault. false≢true (sym c.if-is_fault.false ∙ c.is_fault.ensures.1 fault))
