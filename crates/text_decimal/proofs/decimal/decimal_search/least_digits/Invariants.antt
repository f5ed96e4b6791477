use Rattle.std.proofs.Common.{◌+◌, ◌-◌, ◌<◌, ◌≤◌, ◌^◌}
use Rattle.text_decimal.proofs.decimal.DecimalSearchLemmas.{AreLess, IsNoLess}
use Rattle.text_decimal.proofs.decimal.decimal_search.least_digits.Given as goal

abbrev pub invariant-loop-low : goal.invariant-loop-low
invariant-loop-low l =
    (0 < l.low) × (l.low ≤ l.high) × (l.high < 10 ^ 19) × AreLess l.size l.power l.low
    × (l.high + 1 < 10 ^ 19 → IsNoLess l.size l.power l.high)

abbrev pub decreases-loop-low : goal.decreases-loop-low
decreases-loop-low l = l.high - l.low
