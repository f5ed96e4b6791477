use Rattle.std.specs.Prelude.{◌≡◌, Contains}
use Rattle.types_spec.specs.types.Occurrence.{Placed}
use Rattle.types_resolve.specs.scope.Least.{IsLeast}
use Rattle.types_resolve.proofs.scope.ScopeLeastLemmas.{Before, AtItem}
use Rattle.types_resolve.proofs.scope.variables.least_unbound.Given as goal

abbrev pub invariant-loop-i : goal.invariant-loop-i
invariant-loop-i l =
    IsLeast (Before (AtItem l.variables (λ (v : Placed) k. (v.0 ≡ k) × (¬ Contains l.parameters v.1))) l.i) l.best
