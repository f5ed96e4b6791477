use Rattle.std.proofs.Common.{◌-◌, ◌^◌}
use Rattle.text_decimal.specs.decimal.Doubles.{Reads}
use Rattle.text_decimal.proofs.decimal.nearest.up.Given as goal

abbrev pub invariant-loop-size : goal.invariant-loop-size
invariant-loop-size l = Reads l.size.bits l.digits l.power

abbrev pub decreases-loop-size : goal.decreases-loop-size
decreases-loop-size l = 10 ^ 19 - l.digits
