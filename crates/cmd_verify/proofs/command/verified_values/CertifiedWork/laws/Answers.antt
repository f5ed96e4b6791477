use Rattle.cmd_certify.proofs.value_items.ValueItemReadLemmas.{holds}
use Rattle.cmd_verify.proofs.command.VerifyReadLemmas.{has_values}
use Rattle.cmd_verify.proofs.command.verified_values.CertifiedWork.laws.Goals as goal

pub returns-clause-holds : goal.returns-clause-holds
returns-clause-holds c = λ bytes output h.
    let w = c.args.self.now in holds (has_values w.requested.now w.sections.now w.limit) h

pub returns-clause-stay : goal.returns-clause-stay
returns-clause-stay c =
    let w = c.args.self.now in (has_values w.requested.now w.sections.now w.limit).stay
