use Rattle.cert_produce.proofs.CertifiedLemmas.{certified_one}
use Rattle.cert_produce.proofs.laws.certified_sections_are_one.Goals as goal

pub returns : goal.returns
returns c table lawful graph root one other is its = certified_one table lawful graph root one other is its
