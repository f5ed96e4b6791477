use Rattle.std.proofs.Common.{◌-◌, length}
use Rattle.text_decimal.proofs.texts.DecimalTextFoundLemmas.{IsFound}
use Rattle.text_decimal.proofs.texts.find.find_decimals.Given as goal

abbrev pub invariant-loop-at : goal.invariant-loop-at
invariant-loop-at l = IsFound l.text l.at l.may l.decimals.items

abbrev pub decreases-loop-at : goal.decreases-loop-at
decreases-loop-at l = length l.text - l.at
