use Rattle.cmd_verify.proofs.spec.VerifySpecLawfulLemmas.{verifying_lawful}
use Rattle.cmd_verify.proofs.spec.laws.verifying_is_lawful.Goals as goal

pub returns : goal.returns
returns g c =
    verifying_lawful g.V.Verifies.language g.V.Verifies.Reads g.V.Verifies.ShownBy
    c.requires.language c.requires.once
