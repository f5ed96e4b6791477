use Rattle.std.proofs.Common.{◌≡◌, ◌≤◌, take, vec_len, vec_capacity}
use Rattle.marshal_heap.specs.heap.Heap.{object_at, doubles_of}
use Rattle.marshal_write.proofs.graft.blank.append_doubles.Given as goal

abbrev pub invariant-loop-i : goal.invariant-loop-i
invariant-loop-i l = record {
  items : l.all.items ≡ take l.i (doubles_of (object_at l.from l.k));
  many : vec_len l.all ≡ l.i;
  room : l.len ≤ vec_capacity l.all;
}
