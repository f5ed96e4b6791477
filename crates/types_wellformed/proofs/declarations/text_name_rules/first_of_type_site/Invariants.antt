use Rattle.types_wellformed.proofs.declarations.text_name_rules.first_of_type_site.Given as goal

abbrev pub ghost-first_break_in_type : goal.ghost-first_break_in_type
ghost-first_break_in_type g a = g.occurrences
