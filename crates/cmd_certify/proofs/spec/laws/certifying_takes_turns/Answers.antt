use Rattle.cmd_certify.proofs.spec.CertifySpecLawfulLemmas.{certifying_turns}
use Rattle.cmd_certify.proofs.spec.laws.certifying_takes_turns.Goals as goal

pub returns : goal.returns
returns g c =
    certifying_turns g.V.Certifies.language g.V.Certifies.SectionOf
    c.requires.language
