use Rattle.std.proofs.Common.{List, ◌∙◌, ap}
use Rattle.types_spec.specs.types.Declarations.{predeclared}
use Rattle.types_spec.specs.types.Predeclared.{PredeclaredRow, predeclared_from}
use Rattle.types_spec.proofs.types.predeclared.predeclared.Goals as goal

pub returns : goal.returns
unfolding predeclared
returns c = c.meaning_of.ensures ∙ ap (λ (all : List PredeclaredRow). predeclared_from 0 all c.args.name.now) c.rows.ensures
