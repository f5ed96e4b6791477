use Rattle.std.proofs.Common.{take}
use Rattle.types_table.proofs.partition.Loops.{SignedSoFar}
use Rattle.types_table.proofs.partition.moves.positions_of.Given as goal

abbrev pub invariant-loop-number : goal.invariant-loop-number
invariant-loop-number l =
    SignedSoFar l.forms l.class l.fn.found l.found (take l.number-index l.inspected) l.positions.items
