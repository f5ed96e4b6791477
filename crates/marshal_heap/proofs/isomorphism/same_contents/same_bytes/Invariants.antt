use Rattle.std.proofs.Common.{◌≡◌, ℕ, ◌<◌, get_or}
use Rattle.marshal_heap.specs.heap.Heap.{object_at, bytes_of}
use Rattle.marshal_heap.proofs.isomorphism.same_contents.same_bytes.Given as goal

abbrev pub invariant-loop-i : goal.invariant-loop-i
invariant-loop-i l = (j : ℕ) → j < l.i → get_or (bytes_of (object_at l.left l.k)) j 0 ≡ get_or (bytes_of (object_at l.right l.l)) j 0
