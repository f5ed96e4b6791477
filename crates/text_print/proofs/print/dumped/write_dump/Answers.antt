use Rattle.std.proofs.Common.{◌+◌, take, arith}
use Rattle.marshal_heap.specs.heap.Heap.{object_at}
use Rattle.text_print.specs.leaves.DumpedObjects.{root_line, object_line}
use Rattle.text_print.specs.show.DumpedGraph.{lines_from}
use Rattle.text_print.proofs.print.PrintDumpLemmas.{lines_more, line_written}
use Rattle.text_print.proofs.print.dumped.write_dump.Goals as goal

pub loop-o-preserved : goal.loop-o-preserved
loop-o-preserved c =
    let graph = c.args.value.now.heap.now in
    let o = c.loop-o.o in
    line_written c.args.text.now.items (root_line c.args.value.now.root) (lines_from 0 (take o graph)) (object_line o (object_at graph o))
    (lines_from 0 (take (o + 1) graph)) c.loop-o.text.items c.write_object_line.new.text.items
    c.in_ok-write_object_line.ensures c.loop-o.invariant (lines_more o graph (omega arith))
