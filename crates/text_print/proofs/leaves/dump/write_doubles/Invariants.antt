use Rattle.std.proofs.Common.{◌≡◌, ◌++◌, take}
use Rattle.std.specs.List.{flat_map}
use Rattle.marshal_heap.specs.heap.Heap.{object_at, doubles_of}
use Rattle.text_print.specs.leaves.DumpedObjects.{spaced_float}
use Rattle.text_print.proofs.leaves.dump.write_doubles.Given as goal

abbrev pub invariant-loop-i : goal.invariant-loop-i
invariant-loop-i l = l.text.items ≡ l.fn.text.items ++ flat_map spaced_float (take l.i (doubles_of (object_at l.placed.heap.now l.placed.object)))
