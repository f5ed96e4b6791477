use Rattle.types_wellformed.proofs.brackets.BracketLemmas.{AreCollisionsBefore}
use Rattle.types_wellformed.proofs.brackets.tag_names.least_collision.Given as goal

abbrev pub invariant-loop-item : goal.invariant-loop-item
invariant-loop-item l = AreCollisionsBefore l.items l.item-index l.table l.best
