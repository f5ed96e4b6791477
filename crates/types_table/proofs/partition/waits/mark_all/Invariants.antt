use Rattle.std.proofs.Common.{take}
use Rattle.types_table.proofs.partition.Loops.{MarksSoFar}
use Rattle.types_table.proofs.partition.waits.mark_all.Given as goal

abbrev pub invariant-loop-number : goal.invariant-loop-number
invariant-loop-number l =
    MarksSoFar l.fn.waiting.items l.waiting.items l.todo.items l.class (take l.number-index l.numbers)
