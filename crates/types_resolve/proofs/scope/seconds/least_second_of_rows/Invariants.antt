use Rattle.std.specs.Prelude.{List}
use Rattle.types_spec.specs.types.Occurrence.{Placed}
use Rattle.types_spec.specs.types.Scope.{IsSecond}
use Rattle.types_resolve.specs.scope.Least.{IsLeast}
use Rattle.types_resolve.proofs.scope.ScopeLeastLemmas.{Before, AtItem}
use Rattle.types_resolve.proofs.scope.seconds.least_second_of_rows.Given as goal

abbrev pub invariant-loop-i : goal.invariant-loop-i
invariant-loop-i l = IsLeast (Before (AtItem l.rows (λ (row : List Placed). IsSecond row)) l.i) l.best
