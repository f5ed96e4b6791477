use Rattle.std.specs.Prelude.{◌≡◌, IsSome}
use Rattle.types_spec.specs.types.Declarations.{predeclared}
use Rattle.types_spec.specs.types.Occurrence.{Placed}
use Rattle.types_resolve.specs.scope.Least.{IsLeast}
use Rattle.types_resolve.proofs.scope.ScopeLeastLemmas.{Before, AtItem}
use Rattle.types_resolve.proofs.scope.declared_names.least_predeclared.Given as goal

abbrev pub invariant-loop-i : goal.invariant-loop-i
invariant-loop-i l =
    IsLeast (Before (AtItem l.names (λ (p : Placed) k. (p.0 ≡ k) × IsSome (predeclared p.1))) l.i) l.best
