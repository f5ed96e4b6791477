use Rattle.types_resolve.specs.scope.Least.{IsLeast}
use Rattle.types_resolve.proofs.scope.ScopeLeastLemmas.{Before}
use Rattle.types_wellformed.specs.head_rules.Rules.{IsMixedDecl, DeclBreaksAt}
use Rattle.types_wellformed.proofs.head_rules.mixed.least_mixed.Given as goal

abbrev pub invariant-loop-i : goal.invariant-loop-i
invariant-loop-i l = IsLeast (Before (DeclBreaksAt (IsMixedDecl l.decls) l.decls l.names) l.i) l.best
