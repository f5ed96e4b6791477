use Rattle.types_resolve.proofs.scope.first_name_rule.first_break.Given as goal

abbrev pub ghost-first_of_file : goal.ghost-first_of_file
ghost-first_of_file g a = g.all
