use Rattle.std.proofs.Common.{◌≡◌, set}
use Rattle.marshal_heap.specs.heap.Heap.{object_at}
use Rattle.marshal_write.specs.write.Marks.{marks_of}
use Rattle.marshal_write.proofs.graft.FillLemmas.{partly}
use Rattle.marshal_write.proofs.graft.fill.fill.Given as goal

abbrev pub invariant-loop-i : goal.invariant-loop-i
invariant-loop-i l =
    l.heap ≡ set l.initial.heap l.number (partly l.base (marks_of l.numbers.marks) l.i (object_at l.from l.k))
