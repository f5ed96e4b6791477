use Rattle.std.proofs.Common.{◌≡◌, ◌++◌, Some, [], length}
use Rattle.std.specs.List.{flat_map}
use Rattle.text_print.specs.show.TextChunks.{chunk_text}
use Rattle.text_print.specs.print.PrintWalk.{left_of, chunks_left, IsWalk}
use Rattle.text_print.proofs.print.shown.write_with_labels.Given as goal

abbrev pub invariant-loop-walk : goal.invariant-loop-walk
invariant-loop-walk l =
    IsWalk l.table l.value.heap.now l.walk
    × (l.text.items ++ flat_map (chunk_text l.labels.objects.items) (chunks_left l.table l.value.heap.now l.walk)
    ≡ l.fn.text.items ++ flat_map (chunk_text l.labels.objects.items) (left_of l.table l.value.heap.now [] (Some (l.fn.value.root, l.fn.at)) []))

abbrev pub decreases-loop-walk : goal.decreases-loop-walk
decreases-loop-walk l = length (chunks_left l.table l.value.heap.now l.walk)
