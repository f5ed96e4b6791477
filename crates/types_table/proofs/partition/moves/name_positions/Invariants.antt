use Rattle.types_table.specs.partition.Refinement.{NamedSoFar}
use Rattle.types_table.proofs.partition.moves.name_positions.Given as goal

abbrev pub invariant-loop-position : goal.invariant-loop-position
invariant-loop-position l =
    NamedSoFar l.found l.parted l.kept l.position l.numbers.items l.fn.signatures.items l.signatures.items
