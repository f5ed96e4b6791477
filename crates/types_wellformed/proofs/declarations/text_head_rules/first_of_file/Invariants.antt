use Rattle.types_wellformed.proofs.declarations.text_head_rules.first_of_file.Given as goal

abbrev pub ghost-first_head_break : goal.ghost-first_head_break
ghost-first_head_break g a = g.all
