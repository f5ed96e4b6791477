use Rattle.std.proofs.Common.{◌≡◌, ◌+◌, ◌≤◌}
use Rattle.text_decimal.specs.decimal.Limbs.{number_below}
use Rattle.text_decimal.proofs.decimal.big.compare_limbs.Given as goal

abbrev pub invariant-loop-i : goal.invariant-loop-i
invariant-loop-i l = (l.i ≤ l.len) × (number_below l.a l.len + number_below l.b l.i ≡ number_below l.b l.len + number_below l.a l.i)

abbrev pub decreases-loop-i : goal.decreases-loop-i
decreases-loop-i l = l.i
