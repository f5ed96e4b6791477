use Rattle.types_wellformed.proofs.declarations.text_head_rules.first_of_type.Given as goal

abbrev pub ghost-first_head_break_in_type : goal.ghost-first_head_break_in_type
ghost-first_head_break_in_type g a = g.occurrences
