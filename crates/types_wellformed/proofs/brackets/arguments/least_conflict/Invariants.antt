use Rattle.types_wellformed.proofs.brackets.BracketLemmas.{AreConflictsBefore}
use Rattle.types_wellformed.proofs.brackets.arguments.least_conflict.Given as goal

abbrev pub invariant-loop-item : goal.invariant-loop-item
invariant-loop-item l = AreConflictsBefore l.items l.item-index l.table l.best
