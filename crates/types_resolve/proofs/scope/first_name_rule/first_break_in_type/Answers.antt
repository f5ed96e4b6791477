use Rattle.std.proofs.Common.{List, subst}
use Rattle.std.specs.Prelude.{IfOk}
use Rattle.types_spec.specs.declared.types.decl.Decl.{Decl}
use Rattle.types_spec.specs.types.Scope.{BreaksInType}
use Rattle.types_resolve.specs.scope.First.{IsFirstBefore}
use Rattle.types_resolve.proofs.scope.first_name_rule.first_break_in_type.Goals as goal

pub returns : goal.returns
returns g c =
    subst (λ (ds : List Decl). IfOk c.first_of_type.result (IsFirstBefore (BreaksInType ds g.occurrences) 7))
    c.in_ok-environment.ensures c.first_of_type.ensures
