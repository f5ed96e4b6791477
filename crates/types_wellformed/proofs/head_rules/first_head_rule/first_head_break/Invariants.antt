use Rattle.types_wellformed.proofs.head_rules.first_head_rule.first_head_break.Given as goal

abbrev pub ghost-first_of_file : goal.ghost-first_of_file
ghost-first_of_file g a = g.all
