use Rattle.cert_format.specs.CertificateReading.{IsPathText, IsNoPathText, IsStepsText, IsNoStepsText}
use Rattle.cert_format.proofs.CertificateHeadLemmas.{found_more, some_bytes, no_path_steps, path_is_steps}
use Rattle.cert_format.proofs.certificate_lines.path_of.Goals as goal

pub returns : goal.returns
returns c =
    found_more c.steps_of.result (IsNoStepsText c.args.text.now) (IsNoPathText c.args.text.now) (IsStepsText c.args.text.now)
    (IsPathText c.args.text.now)
    (no_path_steps c.args.text.now c.in-Some.numbers.now c.in-Some.ensures
    (some_bytes c.in-Some.numbers.now c.is_empty.result c.is_empty.ensures c.if-is_empty.false))
    (λ path is. path_is_steps c.args.text.now c.in-Some.numbers.now path c.in-Some.ensures is) c.steps_of.ensures
