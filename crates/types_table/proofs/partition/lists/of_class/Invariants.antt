use Rattle.std.proofs.Common.{take}
use Rattle.types_table.specs.partition.Lists.{IsOfClass}
use Rattle.types_table.proofs.partition.lists.of_class.Given as goal

abbrev pub invariant-loop-number : goal.invariant-loop-number
invariant-loop-number l = IsOfClass (take l.number-index l.numbers) l.class l.wanted l.found.items
