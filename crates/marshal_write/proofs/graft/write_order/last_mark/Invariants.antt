use Rattle.std.proofs.Common.{ℕ, ◌<◌, ◌≤◌}
use Rattle.std.specs.Prelude.{slice_index}
use Rattle.marshal_write.specs.write.Marks.{marks_of}
use Rattle.marshal_write.proofs.graft.write_order.last_mark.Given as goal

abbrev pub invariant-loop-k : goal.invariant-loop-k
invariant-loop-k l = record {
  most : (k : ℕ) → k < l.k → slice_index (marks_of l.numbers.marks) k ≤ l.last;
  least : (n : ℕ) → ((k : ℕ) → k < l.objects → slice_index (marks_of l.numbers.marks) k ≤ n) → l.last ≤ n;
}
