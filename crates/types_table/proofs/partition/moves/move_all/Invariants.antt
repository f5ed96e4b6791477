use Rattle.std.proofs.Common.{◌≡◌, length}
use Rattle.types_table.specs.partition.Refinement.{AreMoved}
use Rattle.types_table.proofs.partition.moves.move_all.Given as goal

abbrev pub invariant-loop-at : goal.invariant-loop-at
invariant-loop-at l =
    AreMoved l.inspected l.positions l.numbers l.at l.fn.class.items l.class.items × (length l.class.items ≡ length l.fn.class.items)
