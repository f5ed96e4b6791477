use Rattle.cmd_verify.proofs.spec.VerifySpecFindLemmas.{in_turns}
use Rattle.cmd_verify.proofs.spec.laws.verifying_takes_turns.Goals as goal

pub returns : goal.returns
returns g c =
    in_turns g.V.Verifies.language g.V.Verifies.Reads g.V.Verifies.ShownBy c.requires.language
    c.requires.once.sections
