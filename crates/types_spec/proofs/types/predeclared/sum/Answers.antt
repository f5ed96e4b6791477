use Rattle.std.proofs.Common.{◌∙◌}
use Rattle.types_spec.proofs.types.TypeSumLemmas.{sum_found, sum_past}
use Rattle.types_spec.proofs.types.predeclared.sum.Goals as goal

pub returns-then-number-all : goal.returns-then-number-all
returns-then-number-all c =
    c.sum_of.ensures
    ∙ sum_found c.rows-all.result.now c.rows-all.ensures c.args.number _ c.if-number-all.true

pub returns-else-number-all : goal.returns-else-number-all
returns-else-number-all c = sum_past c.rows-all.result.now c.rows-all.ensures c.args.number c.if-number-all.false
