use Rattle.cert_format.proofs.CertificateWriteLemmas.{written_sections}
use Rattle.cert_format.proofs.laws.written_sections_are_certificates.Goals as goal

pub returns : goal.returns
returns c all stated = written_sections all stated
