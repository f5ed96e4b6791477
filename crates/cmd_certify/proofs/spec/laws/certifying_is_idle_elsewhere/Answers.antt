use Rattle.cmd_certify.proofs.spec.CertifySpecIdleLemmas.{certifying_idle}
use Rattle.cmd_certify.proofs.spec.laws.certifying_is_idle_elsewhere.Goals as goal

pub returns : goal.returns
returns g c = certifying_idle g.V.Certifies.language g.V.Certifies.SectionOf
