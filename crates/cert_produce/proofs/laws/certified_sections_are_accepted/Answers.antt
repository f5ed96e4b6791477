use Rattle.cert_produce.proofs.CertifiedLemmas.{certified_accepted, certified_shown}
use Rattle.cert_produce.proofs.laws.certified_sections_are_accepted.Goals as goal

pub returns-clause-accepted : goal.returns-clause-accepted
returns-clause-accepted c table lawful graph root section is = certified_accepted table lawful graph root section is

pub returns-clause-shown : goal.returns-clause-shown
returns-clause-shown c table lawful graph root section answer is verified = certified_shown table lawful graph root section answer is verified
