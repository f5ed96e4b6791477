use Rattle.cert_verify.proofs.certificate.VerifiedLemmas.{never_both, one_answer}
use Rattle.cert_verify.proofs.certificate.laws.answers_are_one.Goals as goal

pub returns-clause-never_both : goal.returns-clause-never_both
returns-clause-never_both c table graph root section why is accepted = never_both table graph root section why is accepted

pub returns-clause-one : goal.returns-clause-one
returns-clause-one c table graph root section one other is its = one_answer table graph root section one other is its
