use Rattle.std.proofs.Common.{length}
use Rattle.cert_format.proofs.CertificateHeadLemmas.{AreSteps}
use Rattle.cert_format.proofs.certificate_lines.steps_of.Given as goal

-- The steps in `path` have been parsed, and `rest` is the text of the remaining steps.
abbrev pub invariant-loop-rest : goal.invariant-loop-rest
invariant-loop-rest l = AreSteps l.text l.path l.rest

abbrev pub decreases-loop-rest : goal.decreases-loop-rest
decreases-loop-rest l = length l.rest
