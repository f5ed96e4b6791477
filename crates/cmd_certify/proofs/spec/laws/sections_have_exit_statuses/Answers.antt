use Rattle.cmd_certify.proofs.spec.CertifySpecTableLemmas.{exact}
use Rattle.cmd_certify.proofs.spec.laws.sections_have_exit_statuses.Goals as goal

pub returns : goal.returns
returns g c = exact g.V.Certifies.language g.V.Certifies.SectionOf
