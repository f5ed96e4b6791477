use Rattle.std.specs.Prelude.{◌≡◌}
use Rattle.types_resolve.specs.declared.scope.site.TypeUse.{TypeUse}
use Rattle.types_resolve.specs.scope.Breaks.{BreaksUse}
use Rattle.types_resolve.specs.scope.Least.{IsLeast}
use Rattle.types_resolve.proofs.scope.ScopeLeastLemmas.{Before, AtItem}
use Rattle.types_resolve.proofs.scope.name_uses.least_use.Given as goal

abbrev pub invariant-loop-i : goal.invariant-loop-i
invariant-loop-i l =
    IsLeast (Before (AtItem l.uses (λ (u : TypeUse) k. (u.position ≡ k) × BreaksUse l.rule l.decls l.group u)) l.i) l.best
