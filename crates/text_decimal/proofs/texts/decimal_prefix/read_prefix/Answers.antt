use Rattle.std.proofs.Common.{sym}
use Rattle.text_decimal.proofs.decimal.DecimalScanLemmas.{decimal_long}
use Rattle.text_decimal.proofs.texts.decimal_prefix.read_prefix.Goals as goal

pub returns-in-Some-clause-within : goal.returns-in-Some-clause-within
returns-in-Some-clause-within c =
    (decimal_long c.args.text.now c.in-Some.bits c.in-Some.len (sym c.in-Some.ensures.value), c.in-Some.ensures.within)
