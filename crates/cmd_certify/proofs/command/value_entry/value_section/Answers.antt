use Rattle.cmd_certify.proofs.command.CertifyLineLemmas.{section_is}
use Rattle.cmd_certify.proofs.command.value_entry.value_section.Goals as goal

pub section_with-requires-clause-least_faults : goal.section_with-requires-clause-least_faults
section_with-requires-clause-least_faults c = rw c.table-table.ensures.same c.requires

pub returns : goal.returns
returns c =
    section_is c.args.requested.now c.holds.ensures c.args.value.now.heap.now c.args.value.now.root c.tables_decide.ensures.root
    c.tables_decide.ensures.decide c.tables_have_the_faults.ensures.least c.in_ok-section.section
    (rw c.table-table.ensures.same at c.in_ok-section.ensures.certified)
