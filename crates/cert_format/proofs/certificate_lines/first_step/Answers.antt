use Rattle.std.proofs.Common.{rules, ◌≡◌, None}
use Rattle.cert_format.specs.CertificateReading.{IsStep, IsNoStep}
use Rattle.cert_format.proofs.CertificateHeadLemmas.{at_none, no_step_number}
use Rattle.cert_format.proofs.certificate_lines.first_step.Goals as goal

pub returns-in_err-step : goal.returns-in_err-step
returns-in_err-step c =
    let none : c.from_residual-in_err-step.result ≡ None = search rules in
    at_none c.from_residual-in_err-step.result (IsNoStep c.args.text.now) (λ p. IsStep c.args.text.now p.0 p.1.now) none
    (no_step_number c.args.text.now c.in_ok-numbers.numbers.now c.until.result.0.now c.until.result.1.now c.in_ok-numbers.ensures c.until.ensures
    c.in_err-step.ensures)
