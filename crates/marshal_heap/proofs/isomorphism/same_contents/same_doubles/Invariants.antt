use Rattle.std.proofs.Common.{◌≡◌, ℕ, ◌<◌, get_or}
use Rattle.marshal_heap.specs.heap.Heap.{object_at, doubles_of}
use Rattle.marshal_heap.proofs.isomorphism.same_contents.same_doubles.Given as goal

abbrev pub invariant-loop-i : goal.invariant-loop-i
invariant-loop-i l = (j : ℕ) → j < l.i → get_or (doubles_of (object_at l.left l.k)) j 0 ≡ get_or (doubles_of (object_at l.right l.l)) j 0
