use Rattle.text_decimal.specs.decimal.Doubles.{Reads, IsNoBetterAbove}
use Rattle.text_decimal.proofs.decimal.nearest.down.Given as goal

abbrev pub invariant-loop-size : goal.invariant-loop-size
invariant-loop-size l = Reads l.size.bits l.digits l.power × IsNoBetterAbove l.size.bits l.digits l.power

abbrev pub decreases-loop-size : goal.decreases-loop-size
decreases-loop-size l = l.digits
