use Rattle.cert_format.proofs.StemLemmas.{short_end}
use Rattle.cert_format.proofs.stems.first_end.Goals as goal

pub returns-then-text-eq10 : goal.returns-then-text-eq10
returns-then-text-eq10 c =
    let range = c.if-is_ascii_digit.ensures.cases in
    short_end c.args.text.now c.from.result c.if-text-gt1.true c.from.ensures range.0 range.1 c.if-text-eq10.true
