use Rattle.std.proofs.Common.{◌≤◌, ◌*◌, take, vec_capacity}
use Rattle.marshal_heap.specs.heap.Heap.{object_at, bytes_of}
use Rattle.marshal_write.specs.write.WriteBuffer.{AddsAll}
use Rattle.marshal_write.specs.declared.write.write_buffer.TheConstants.{LIMIT}
use Rattle.marshal_write.proofs.write.token_encoding.add_bytes.Given as goal

abbrev pub invariant-loop-j : goal.invariant-loop-j
invariant-loop-j g l = record {
  adds : AddsAll (g.K.Sink.state l.initial.out) (g.K.Sink.state l.out) l.initial.buffer.items l.buffer.items (take (8 * l.j) (bytes_of (object_at l.heap l.k)));
  room : LIMIT ≤ vec_capacity l.buffer;
}
