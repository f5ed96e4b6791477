use Rattle.types_resolve.proofs.scope.ScopeStepLemmas.{AreFirstSteps}
use Rattle.types_resolve.proofs.scope.abbreviation_steps.step_graph.Given as goal

abbrev pub invariant-loop-i : goal.invariant-loop-i
invariant-loop-i l = AreFirstSteps l.decls l.sites l.graph l.i
