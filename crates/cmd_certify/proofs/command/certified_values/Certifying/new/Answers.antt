use Rattle.cmd_certify.proofs.value_items.ValueItemReadLemmas.{begins}
use Rattle.cmd_certify.specs.command.CertifiedOutput.{on_certified}
use Rattle.cmd_certify.specs.command.CertifyProgress.{certified, Ready}
use Rattle.cmd_certify.proofs.command.certified_values.Certifying.new.Goals as goal

pub returns-clause-has : goal.returns-clause-has
returns-clause-has c =
    let r = c.args.requested.now in
    begins on_certified (certified r c.args.limit) c.args.limit (Ready r c.args.least_faults.now)
    c.new.result (c.holds.ensures, c.requires.least_faults) c.new.ensures.leads
