use Rattle.marshal_heap.specs.heap.Heap.{object_at, bytes_of}
use Rattle.trees.proofs.search_trees.LessLemmas.{DecidesFrom}
use Rattle.trees.proofs.search_trees.element_order.is_before.Given as goal

abbrev pub invariant-loop-i : goal.invariant-loop-i
invariant-loop-i l = DecidesFrom (bytes_of (object_at l.heap l.o)) (bytes_of (object_at l.heap l.p)) l.i
