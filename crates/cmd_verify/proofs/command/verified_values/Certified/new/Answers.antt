use Rattle.cmd_certify.proofs.value_items.ValueItemReadLemmas.{begins}
use Rattle.run_types.specs.RequestedTexts.{IsReady}
use Rattle.cmd_verify.specs.command.VerifyProgress.{on_certificates, certified}
use Rattle.cmd_verify.proofs.command.verified_values.Certified.new.Goals as goal

pub returns-clause-has : goal.returns-clause-has
returns-clause-has c =
    let r = c.args.requested.now in
    begins on_certificates (certified r c.args.sections.now c.args.limit) c.args.limit (IsReady r)
    c.new.result c.holds.ensures c.new.ensures.leads
