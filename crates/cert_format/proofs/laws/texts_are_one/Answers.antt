use Rattle.cert_format.proofs.CertificateFaultLemmas.{sections_are_one, certificates_have_no_fault, faults_are_one}
use Rattle.cert_format.proofs.laws.texts_are_one.Goals as goal

pub returns-clause-sections : goal.returns-clause-sections
returns-clause-sections c bytes all others one two = sections_are_one bytes all others one two

pub returns-clause-no_fault : goal.returns-clause-no_fault
returns-clause-no_fault c bytes all n is fault = certificates_have_no_fault bytes all n is fault

pub returns-clause-fault : goal.returns-clause-fault
returns-clause-fault c bytes m n one two = faults_are_one bytes m n one two
