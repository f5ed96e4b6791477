use Rattle.std.proofs.Common.{arith, subst}
use Rattle.std.specs.Prelude.{All}
use Rattle.std.proofs.lemmas.Grind.{common_steps}
use Rattle.std.proofs.lemmas.List.{take_all}
use Rattle.text_print.specs.print.Labels.{IsBetween}
use Rattle.text_print.proofs.print.PrintLabelLemmas.{span_more}
use Rattle.text_print.proofs.print.labels.span_of.Goals as goal

pub loop-o-preserved : goal.loop-o-preserved
loop-o-preserved c =
    span_more c.args.objects.now c.loop-o.o-index c.loop-o.first c.loop-o.end c.min-first.result c.max-end.result (omega arith) c.loop-o.invariant (omega arith) (grind (arith, common_steps))
    (omega arith, grind (arith, common_steps))

pub returns : goal.returns
returns c = subst (All (IsBetween c.loop-o.first c.loop-o.end)) (take_all c.loop-o.o-index c.args.objects.now (omega arith)) c.loop-o.invariant
