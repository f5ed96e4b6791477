use Rattle.types_resolve.specs.scope.NamePositions.{ArePositions, number_of}
use Rattle.types_resolve.specs.scope.Breaks.{names_of_decls}
use Rattle.types_resolve.proofs.scope.environment.positions_of.Given as goal

abbrev pub invariant-loop-i : goal.invariant-loop-i
invariant-loop-i l = ArePositions (names_of_decls l.decls) l.i (number_of l.table)
