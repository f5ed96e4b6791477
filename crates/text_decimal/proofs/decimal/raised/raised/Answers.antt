use Rattle.std.proofs.Common.{arith}
use Rattle.text_decimal.proofs.decimal.NearestLemmas.{few_powers}
use Rattle.text_decimal.proofs.decimal.RaisedLemmas.{highest_is}
use Rattle.text_decimal.proofs.decimal.raised.raised.Goals as goal

pub overflow_add-power : goal.overflow_add-power
overflow_add-power c = record { fits = omega (arith, few_powers c.args.size.bits c.loop-next.digits c.loop-next.power c.args.size.some c.loop-next.invariant) }

pub loop-next-smaller : goal.loop-next-smaller
loop-next-smaller c = omega (arith, few_powers c.args.size.bits c.loop-next.digits c.loop-next.power c.args.size.some c.loop-next.invariant)

pub returns-clause-highest : goal.returns-clause-highest
returns-clause-highest c = highest_is c.args.size.bits c.loop-next.power c.in_default.ensures
