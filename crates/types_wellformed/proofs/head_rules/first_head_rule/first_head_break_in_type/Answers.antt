use Rattle.std.proofs.Common.{List, subst}
use Rattle.std.specs.Prelude.{IfOk}
use Rattle.types_spec.specs.declared.types.decl.Decl.{Decl}
use Rattle.types_spec.specs.types.Scope.{BreaksInType}
use Rattle.types_wellformed.specs.head_rules.Broken.{IsFirstOfHeads, TypeHashes}
use Rattle.types_wellformed.proofs.head_rules.first_head_rule.first_head_break_in_type.Goals as goal

pub returns : goal.returns
returns g c =
    subst (λ (ds : List Decl). IfOk c.first_of_type.result (IsFirstOfHeads (BreaksInType ds g.occurrences) (TypeHashes ds g.occurrences)))
    c.in_ok-environment.ensures c.first_of_type.ensures
