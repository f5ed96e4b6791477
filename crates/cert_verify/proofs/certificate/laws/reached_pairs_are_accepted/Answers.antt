use Rattle.cert_verify.proofs.certificate.EntryReachedLemmas.{reached_pairs, reached_are_one}
use Rattle.cert_verify.proofs.certificate.laws.reached_pairs_are_accepted.Goals as goal

pub returns-clause-accepted : goal.returns-clause-accepted
returns-clause-accepted c table lawful graph root pairs has reached = reached_pairs table lawful graph root pairs has reached

pub returns-clause-one : goal.returns-clause-one
returns-clause-one c table lawful graph root pairs others one two = reached_are_one table lawful graph root pairs others one two
