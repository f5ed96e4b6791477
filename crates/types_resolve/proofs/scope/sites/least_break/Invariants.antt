use Rattle.types_resolve.proofs.scope.sites.least_break.Given as goal

abbrev pub ghost-least_cyclic : goal.ghost-least_cyclic
ghost-least_cyclic g a = g.all
