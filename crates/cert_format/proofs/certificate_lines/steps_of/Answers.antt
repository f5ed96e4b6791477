use Rattle.cert_format.proofs.CertificateHeadLemmas.{some_bytes, no_steps}
use Rattle.cert_format.proofs.certificate_lines.steps_of.Goals as goal

pub returns-in_default : goal.returns-in_default
returns-in_default c steps is =
    no_steps c.args.text.now c.loop-rest.path c.loop-rest.rest.now c.loop-rest.invariant
    (some_bytes c.loop-rest.rest.now c.is_empty.result c.is_empty.ensures c.loop-rest-test.true) c.in_default.ensures steps is
