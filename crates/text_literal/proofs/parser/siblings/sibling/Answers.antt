use Rattle.std.proofs.Common.{arith, ◌-◌, ◌∙◌, sym}
use Rattle.text_literal.proofs.parser.EndsLemmas.{sibling_next}
use Rattle.text_literal.proofs.parser.siblings.sibling.Goals as goal

pub loop-left-preserved : goal.loop-left-preserved
loop-left-preserved c =
    sym (sibling_next c.args.ends.now c.loop-left.position c.loop-left.left (c.loop-left.left - 1) (omega arith) (omega (arith, c.if-position-ends.false)))
    ∙ c.loop-left.invariant
