use Rattle.std.proofs.Common.{◌≡◌, ◌≤◌, take, vec_len, vec_capacity}
use Rattle.marshal_heap.specs.heap.Heap.{object_at, bytes_of}
use Rattle.marshal_write.proofs.graft.blank.append_bytes.Given as goal

abbrev pub invariant-loop-i : goal.invariant-loop-i
invariant-loop-i l = record {
  items : l.content.items ≡ take l.i (bytes_of (object_at l.from l.k));
  many : vec_len l.content ≡ l.i;
  room : l.len ≤ vec_capacity l.content;
}
