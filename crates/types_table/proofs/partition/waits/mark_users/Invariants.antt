use Rattle.std.proofs.Common.{take}
use Rattle.types_table.proofs.partition.Loops.{UserMarksSoFar}
use Rattle.types_table.proofs.partition.waits.mark_users.Given as goal

abbrev pub invariant-loop-number : goal.invariant-loop-number
invariant-loop-number l =
    UserMarksSoFar l.fn.waiting.items l.waiting.items l.todo.items l.class l.users l.left (take l.number-index l.inspected)
