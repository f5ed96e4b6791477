use Rattle.std.proofs.Common.{◌≡◌, ◌++◌, take}
use Rattle.text_print.specs.leaves.DumpedObjects.{root_line}
use Rattle.text_print.specs.show.DumpedGraph.{lines_from}
use Rattle.text_print.proofs.print.dumped.write_dump.Given as goal

abbrev pub invariant-loop-o : goal.invariant-loop-o
invariant-loop-o l = l.text.items ≡ l.fn.text.items ++ (root_line l.fn.value.root ++ lines_from 0 (take l.o l.value.heap.now))
