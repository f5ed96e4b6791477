use Rattle.std.proofs.Common.{take}
use Rattle.types_table.proofs.partition.Loops.{MembersSoFar}
use Rattle.types_table.proofs.partition.moves.add_members.Given as goal

abbrev pub invariant-loop-number : goal.invariant-loop-number
invariant-loop-number l =
    MembersSoFar l.fn.members.items l.members.items l.class l.left (take l.number-index l.inspected)
