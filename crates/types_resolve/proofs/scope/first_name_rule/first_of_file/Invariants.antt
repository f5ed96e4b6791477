use Rattle.types_spec.specs.types.Scope.{BreaksInFile}
use Rattle.types_resolve.specs.scope.First.{KeepsBefore}
use Rattle.types_resolve.proofs.scope.first_name_rule.first_of_file.Given as goal

abbrev pub invariant-loop-i : goal.invariant-loop-i
invariant-loop-i g l = KeepsBefore (BreaksInFile g.all) l.i

abbrev pub ghost-least_break : goal.ghost-least_break
ghost-least_break g a = g.all
