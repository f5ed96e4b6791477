use Rattle.cert_format.specs.CertificateReading.{IsVerdict, IsNoVerdict, IsHead, IsNoHead}
use Rattle.cert_format.proofs.CertificateHeadLemmas.{found_more, no_head_space, no_head_number, no_head_other, no_head_verdict, head_is}
use Rattle.cert_format.proofs.certificate_lines.head_of.Goals as goal
use Rattle.cert_format.proofs.certificate_lines.head_of.Goals.{in_default-number_of-via-in-Some-number_of+else-n-number, in_default-number_of-via-in_default-number_of}

pub returns-in_default-after : goal.returns-in_default-after
returns-in_default-after c number section stated is =
    no_head_space c.args.number c.args.line.now c.in-Some.text.now c.until.result.0.now c.until.result.1.now c.in-Some.ensures c.until.ensures
    c.in_default-after.ensures number section stated is

pub returns-in-Some-number_of : goal.returns-in-Some-number_of
returns-in-Some-number_of c =
    found_more c.verdict_of.result (IsNoVerdict c.in-Some-after.verdict.now) (IsNoHead c.args.number c.args.line.now)
    (IsVerdict c.in-Some-after.verdict.now) (IsHead c.args.number c.args.line.now)
    (no_head_verdict c.args.number c.args.line.now c.in-Some.text.now c.until.result.0.now c.until.result.1.now c.in-Some.ensures c.until.ensures
    c.in-Some-after.verdict.now c.in-Some-after.ensures)
    (λ section is. head_is c.args.number c.args.line.now c.in-Some.text.now c.until.result.0.now c.until.result.1.now c.in-Some.ensures c.until.ensures
    c.in-Some-after.verdict.now c.in-Some-number_of.n section c.in-Some-after.ensures c.in-Some-number_of.ensures c.if-n-number.true is)
    c.verdict_of.ensures

pub returns-in_default-number_of : goal.returns-in_default-number_of
returns-in_default-number_of c number section stated is = elim c.in_default-number_of.branch [
  | in_default-number_of-via-in-Some-number_of+else-n-number w ↦
      no_head_other c.args.number c.args.line.now c.in-Some.text.now c.until.result.0.now c.until.result.1.now c.in-Some.ensures c.until.ensures
      w.in-Some-number_of.n w.in-Some-number_of.ensures w.if-n-number.false number section stated is
  | in_default-number_of-via-in_default-number_of w ↦
      no_head_number c.args.number c.args.line.now c.in-Some.text.now c.until.result.0.now c.until.result.1.now c.in-Some.ensures c.until.ensures
      w.in_default-number_of.ensures number section stated is
]
