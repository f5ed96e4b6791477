use Rattle.std.proofs.Common.{ℕ, ◌<◌}
use Rattle.text_decimal.specs.decimal.Doubles.{Reads}
use Rattle.text_decimal.proofs.decimal.decimal_search.search.Given as goal

abbrev pub invariant-loop-power : goal.invariant-loop-power
invariant-loop-power l = (digits p : ℕ) → p < l.power → ¬ Reads l.size.bits digits p
