use Rattle.types_spec.specs.types.Scope.{BreaksInType}
use Rattle.types_resolve.specs.scope.First.{KeepsBefore}
use Rattle.types_resolve.proofs.scope.first_name_rule.first_of_type.Given as goal

abbrev pub invariant-loop-n : goal.invariant-loop-n
invariant-loop-n g l = KeepsBefore (BreaksInType l.decls g.occurrences) l.n

abbrev pub ghost-least_break_in_type : goal.ghost-least_break_in_type
ghost-least_break_in_type g a = g.occurrences
