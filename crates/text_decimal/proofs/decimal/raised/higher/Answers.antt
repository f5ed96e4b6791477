use Rattle.std.proofs.Common.{arith}
use Rattle.text_decimal.proofs.decimal.NearestLemmas.{few_powers}
use Rattle.text_decimal.proofs.decimal.RaisedLemmas.{none_higher}
use Rattle.text_decimal.proofs.decimal.raised.higher.Goals as goal

pub overflow_add-power : goal.overflow_add-power
overflow_add-power c = record { fits = omega (arith, few_powers c.args.size.bits c.args.digits c.args.power c.args.size.some c.requires.reads) }

pub overflow_add-power-else-reads : goal.overflow_add-power-else-reads
overflow_add-power-else-reads c = record { fits = omega (arith, few_powers c.args.size.bits c.args.digits c.args.power c.args.size.some c.requires.reads) }

pub returns-else-reads-2 : goal.returns-else-reads-2
returns-else-reads-2 c =
    none_higher c.args.size.bits c.args.digits c.args.power c.args.size.some c.requires.reads (c.reads.ensures.not c.if-reads.false) (c.reads-else-reads.ensures.not c.if-reads-2.false)
