use Rattle.std.proofs.Common.{◌≤◌, take, vec_capacity}
use Rattle.std.specs.Prelude.{flat_map}
use Rattle.marshal_heap.specs.heap.Heap.{object_at, doubles_of}
use Rattle.marshal_write.specs.write.WriteBuffer.{AddsAll}
use Rattle.marshal_write.specs.declared.write.write_buffer.TheConstants.{LIMIT}
use Rattle.marshal_spec.specs.format.Canonical.{double_bytes}
use Rattle.marshal_write.proofs.write.token_encoding.add_doubles.Given as goal

abbrev pub invariant-loop-i : goal.invariant-loop-i
invariant-loop-i g l = record {
  adds : AddsAll (g.K.Sink.state l.initial.out) (g.K.Sink.state l.out) l.initial.buffer.items l.buffer.items (flat_map double_bytes (take l.i (doubles_of (object_at l.heap l.k))));
  room : LIMIT ≤ vec_capacity l.buffer;
}
