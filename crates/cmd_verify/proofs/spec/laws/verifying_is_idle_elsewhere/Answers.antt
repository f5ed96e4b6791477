use Rattle.cmd_verify.proofs.spec.VerifySpecIdleLemmas.{certificates_idle}
use Rattle.cmd_verify.proofs.spec.laws.verifying_is_idle_elsewhere.Goals as goal

pub returns : goal.returns
returns g c =
    certificates_idle g.V.Verifies.language g.V.Verifies.Reads g.V.Verifies.ShownBy
