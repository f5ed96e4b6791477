use Rattle.types_wellformed.specs.head_rules.Apart.{AreListed}
use Rattle.types_wellformed.proofs.head_rules.apart.listed.Given as goal

abbrev pub invariant-loop-number : goal.invariant-loop-number
invariant-loop-number l = AreListed l.types l.items l.number
