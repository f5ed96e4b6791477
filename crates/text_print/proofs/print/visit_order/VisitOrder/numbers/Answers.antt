use Rattle.std.proofs.Common.{◌∙◌, ◌++◌, ◌∷◌, [], ap, sym, arith}
use Rattle.text_print.proofs.print.PrintRowLemmas.{row_more}
use Rattle.text_print.proofs.print.visit_order.VisitOrder.numbers.Goals as goal

pub loop-o-preserved : goal.loop-o-preserved
loop-o-preserved c =
    (omega arith, (omega arith, c.in_ok-push.ensures.items ∙ ap (λ ns. ns ++ c.loop-o.o ∷ []) c.loop-o.invariant.1.1 ∙ sym (row_more c.self.inside.first c.loop-o.o c.loop-o.invariant.0)))
