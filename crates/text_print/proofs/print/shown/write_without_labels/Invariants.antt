use Rattle.std.proofs.Common.{Some, [], length}
use Rattle.text_print.specs.print.PrintWalk.{left_of, chunks_left}
use Rattle.text_print.specs.print.Labels.{AreCounted}
use Rattle.text_print.proofs.print.shown.write_without_labels.Given as goal

abbrev pub invariant-loop-again : goal.invariant-loop-again
invariant-loop-again l = AreCounted l.table l.value.heap.now (left_of l.table l.value.heap.now [] (Some (l.fn.value.root, l.fn.at)) []) l.walk l.again.items

abbrev pub decreases-loop-again : goal.decreases-loop-again
decreases-loop-again l = length (chunks_left l.table l.value.heap.now l.walk)
