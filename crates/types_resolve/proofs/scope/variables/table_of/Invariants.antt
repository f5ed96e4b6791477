use Rattle.types_resolve.specs.scope.NamePositions.{ArePositions, number_of}
use Rattle.types_resolve.proofs.scope.variables.table_of.Given as goal

abbrev pub invariant-loop-i : goal.invariant-loop-i
invariant-loop-i l = ArePositions l.parameters l.i (number_of l.table)
