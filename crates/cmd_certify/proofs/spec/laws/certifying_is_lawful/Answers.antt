use Rattle.cmd_certify.proofs.spec.CertifySpecLawfulLemmas.{certifying_lawful}
use Rattle.cmd_certify.proofs.spec.laws.certifying_is_lawful.Goals as goal

pub returns : goal.returns
returns g c =
    certifying_lawful g.V.Certifies.language g.V.Certifies.SectionOf
    c.requires.language c.requires.once
