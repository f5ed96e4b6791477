use Rattle.types_resolve.proofs.scope.first_name_rule.first_break_in_type.Given as goal

abbrev pub ghost-first_of_type : goal.ghost-first_of_type
ghost-first_of_type g a = g.occurrences
