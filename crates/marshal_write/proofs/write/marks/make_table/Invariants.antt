use Rattle.std.proofs.Common.{◌≡◌, ◌≤◌, vec_len, vec_capacity}
use Rattle.marshal_write.specs.write.Marks.{in_order}
use Rattle.marshal_write.proofs.write.marks.make_table.Given as goal

abbrev pub invariant-loop-k : goal.invariant-loop-k
invariant-loop-k l = record {
  items : l.table.items ≡ in_order l.met l.k;
  many : vec_len l.table ≡ l.k;
  room : l.objects ≤ vec_capacity l.table;
}
