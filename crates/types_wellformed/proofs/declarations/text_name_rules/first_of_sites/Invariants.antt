use Rattle.types_wellformed.proofs.declarations.text_name_rules.first_of_sites.Given as goal

abbrev pub ghost-first_break : goal.ghost-first_break
ghost-first_break g a = g.all
