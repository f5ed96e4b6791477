use Rattle.std.proofs.Common.{ℕ, ◌+◌, ◌≡◌, ◌++◌, length, subst, arith}
use Rattle.std.proofs.lemmas.Option.{MatchOption-at_none}
use Rattle.cert_format.specs.Format.{text_of, IsSyntaxAt}
use Rattle.cert_format.specs.CertificateReading.{lines_read, GoesOnByLine, GoesNowhere}
use Rattle.cert_format.proofs.CertificateHeadLemmas.{some_bytes}
use Rattle.cert_format.proofs.CertificateReadLemmas.{at_begin, few_begin, faulty_line}
use Rattle.cert_format.proofs.certificate_reader.with_lines.Goals as goal

pub loop-rest-init : goal.loop-rest-init
loop-rest-init c = (
  at_begin c.args.reading c.in_ok-longer.longer c.args.text.now c.in_ok-longer.lines c.in_ok-longer.begun c.until.result.0.now c.until.result.1.now
      c.in_ok-longer.ensures c.until.ensures,
  few_begin c.args.reading c.in_ok-longer.longer c.args.text.now c.in_ok-longer.lines c.in_ok-longer.begun c.until.result.0.now c.until.result.1.now
      c.in_ok-longer.ensures c.until.ensures,
)

pub returns-in-None-clause-err : goal.returns-in-None-clause-err
returns-in-None-clause-err c later =
    let same : (length (lines_read c.args.reading) + c.loop-rest.lines) + 1 ≡ length (lines_read c.args.reading) + (c.loop-rest.lines + 1) = omega arith in
    subst (λ (n : ℕ). IsSyntaxAt ((text_of (lines_read c.args.reading) ++ c.args.text.now) ++ later) n) same
    (faulty_line (text_of (lines_read c.args.reading) ++ c.args.text.now) c.loop-rest.longer (length (lines_read c.args.reading) + c.loop-rest.lines)
    c.loop-rest.line.now c.loop-rest.rest.now c.loop-rest.invariant.0 later
    (some_bytes c.loop-rest.rest.now c.is_empty.result c.is_empty.ensures c.loop-rest-test.true)
    (MatchOption-at_none (GoesNowhere c.loop-rest.longer c.loop-rest.line.now) (GoesOnByLine c.loop-rest.longer c.loop-rest.line.now) c.in-None.is
    c.in_ok-next.ensures))
