use Rattle.std.proofs.Common.{arith}
use Rattle.marshal_heap.specs.heap.Heap.{object_at, doubles_of}
use Rattle.marshal_heap.proofs.isomorphism.IsomorphismFieldLemmas.{same_content}
use Rattle.marshal_heap.proofs.isomorphism.same_contents.same_doubles.Goals as goal

pub returns : goal.returns
returns c =
    same_content (doubles_of (object_at c.args.left.now c.args.k)) (doubles_of (object_at c.args.right.now c.args.l)) c.args.n c.requires.left c.requires.right
    (λ j less. c.loop-i.invariant j (omega arith))
