use Rattle.types_resolve.specs.scope.Cyclic.{CyclicAt}
use Rattle.types_resolve.specs.scope.Least.{IsLeast}
use Rattle.types_resolve.proofs.scope.ScopeLeastLemmas.{Before}
use Rattle.types_resolve.proofs.scope.cyclic.least_cyclic_name.Given as goal

abbrev pub invariant-loop-i : goal.invariant-loop-i
invariant-loop-i l = IsLeast (Before (CyclicAt l.graph l.names) l.i) l.best
