use Rattle.std.proofs.Common.{length, arith}
use Rattle.marshal_heap.specs.heap.Heap.{object_at}
use Rattle.marshal_heap.proofs.heap.StoredLemmas.{held}
use Rattle.marshal_heap.proofs.heap.HeapPositionLemmas.{two_words}
use Rattle.marshal_heap.proofs.heap.ChangeLemmas.{object_valid, object_inside}
use Rattle.marshal_heap.proofs.heap.heap.Heap.keys.Goals as goal

pub returns : goal.returns
returns c = λ k inside.
    let h = held _ _ c.args.self.now c.self.invariant c.self.view_is in
    omega (arith, c.len.ensures.len, object_inside _ _ c.args.self.now h k inside, two_words (length c.args.self.now) (object_at c.args.self.now k) (object_valid _ _ c.args.self.now h k inside))
