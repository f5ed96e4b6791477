use Rattle.std.proofs.Common.{◌-◌, length}
use Rattle.text_decimal.proofs.scripts.DecimalScriptPlainLemmas.{IsBegun}
use Rattle.text_decimal.proofs.scripts.plain_scripts.plain_script.Given as goal

abbrev pub invariant-loop-plain : goal.invariant-loop-plain
invariant-loop-plain l = IsBegun l.text l.at l.plain

abbrev pub decreases-loop-plain : goal.decreases-loop-plain
decreases-loop-plain l = length l.text - l.at
