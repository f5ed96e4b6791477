use Rattle.std.proofs.Common.{arith}
use Rattle.text_print.proofs.print.PrintLabelLemmas.{numbers_all}
use Rattle.text_print.proofs.print.labels.number_objects.Goals as goal

pub returns : goal.returns
returns c = numbers_all c.args.objects.now c.args.first c.args.end c.loop-k.k c.loop-k.numbers.items (omega arith) c.requires c.loop-k.invariant.2
