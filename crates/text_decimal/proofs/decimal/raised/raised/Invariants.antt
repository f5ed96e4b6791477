use Rattle.std.proofs.Common.{◌-◌}
use Rattle.text_decimal.specs.decimal.Doubles.{Reads}
use Rattle.text_decimal.proofs.decimal.raised.raised.Given as goal

abbrev pub invariant-loop-next : goal.invariant-loop-next
invariant-loop-next l = Reads l.size.bits l.digits l.power

abbrev pub decreases-loop-next : goal.decreases-loop-next
decreases-loop-next l = 651 - l.power
