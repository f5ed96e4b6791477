use Rattle.types_wellformed.proofs.head_rules.first_head_rule.first_head_break_in_type.Given as goal

abbrev pub ghost-first_of_type : goal.ghost-first_of_type
ghost-first_of_type g a = g.occurrences
