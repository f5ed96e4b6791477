use Rattle.std.proofs.Common.{arith}
use Rattle.marshal_heap.specs.heap.Heap.{object_at, bytes_of}
use Rattle.marshal_heap.proofs.isomorphism.IsomorphismFieldLemmas.{same_content}
use Rattle.marshal_heap.proofs.isomorphism.same_contents.same_bytes.Goals as goal

pub returns : goal.returns
returns c =
    same_content (bytes_of (object_at c.args.left.now c.args.k)) (bytes_of (object_at c.args.right.now c.args.l)) c.args.n c.requires.left c.requires.right
    (λ j less. c.loop-i.invariant j (omega arith))
