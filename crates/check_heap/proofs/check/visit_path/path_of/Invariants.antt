use Rattle.std.specs.Prelude.{reverse}
use Rattle.check_heap.specs.check.KnownVisits.{IsRestOf}
use Rattle.check_heap.specs.check.Visits.{listed}
use Rattle.check_heap.proofs.check.visit_path.path_of.Given as goal

abbrev pub invariant-loop-at : goal.invariant-loop-at
invariant-loop-at l = IsRestOf (listed l.visits) l.k l.at (reverse l.steps.items)

abbrev pub decreases-loop-at : goal.decreases-loop-at
decreases-loop-at l = l.at
