use Rattle.types_resolve.specs.declared.scope.site.TypeUse.{TypeUse}
use Rattle.types_resolve.specs.scope.AbbreviationSteps.{LeadsTo}
use Rattle.types_resolve.proofs.scope.ScopeStepLemmas.{AreLed}
use Rattle.types_resolve.proofs.scope.abbreviation_steps.steps_of.Given as goal

abbrev pub invariant-loop-i : goal.invariant-loop-i
invariant-loop-i l = AreLed l.uses (λ (u : TypeUse) j. LeadsTo l.decls l.decl.group u j) l.i l.steps
