use Rattle.types_resolve.specs.scope.Least.{IsLeast}
use Rattle.types_resolve.specs.scope.NamePositions.{ArePositions, number_of}
use Rattle.types_resolve.proofs.scope.ScopeLeastLemmas.{Before}
use Rattle.types_resolve.proofs.scope.ScopeSecondLemmas.{names_of, SecondAt}
use Rattle.types_resolve.proofs.scope.seconds.least_second.Given as goal

abbrev pub invariant-loop-i : goal.invariant-loop-i
invariant-loop-i l = record {
  positions : ArePositions (names_of l.row) l.i (number_of l.table);
  least : IsLeast (Before (SecondAt l.row) l.i) l.best;
}
