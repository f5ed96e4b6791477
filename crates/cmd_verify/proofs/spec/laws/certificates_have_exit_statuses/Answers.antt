use Rattle.cmd_verify.proofs.spec.VerifySpecTableLemmas.{exact}
use Rattle.cmd_verify.proofs.spec.laws.certificates_have_exit_statuses.Goals as goal

pub returns : goal.returns
returns g c = exact g.V.Verifies.language g.V.Verifies.Reads g.V.Verifies.ShownBy
