use Rattle.std.proofs.Common.{take}
use Rattle.std.specs.Prelude.{All}
use Rattle.text_print.specs.print.Labels.{IsBetween}
use Rattle.text_print.proofs.print.labels.span_of.Given as goal

abbrev pub invariant-loop-o : goal.invariant-loop-o
invariant-loop-o l = All (IsBetween l.first l.end) (take l.o-index l.objects)
