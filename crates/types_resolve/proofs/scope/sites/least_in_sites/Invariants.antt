use Rattle.types_resolve.specs.scope.Breaks.{BreaksAt}
use Rattle.types_resolve.specs.scope.Least.{IsLeast}
use Rattle.types_resolve.proofs.scope.ScopeLeastLemmas.{Before}
use Rattle.types_resolve.proofs.scope.sites.least_in_sites.Given as goal

abbrev pub invariant-loop-i : goal.invariant-loop-i
invariant-loop-i l = IsLeast (Before (BreaksAt l.rule l.decls l.sites) l.i) l.best
