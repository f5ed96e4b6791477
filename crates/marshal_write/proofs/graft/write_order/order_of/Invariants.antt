use Rattle.std.proofs.Common.{ℕ, ◌≡◌, List, length}
use Rattle.base_data.specs.declared.model.value.Obj.{Obj}
use Rattle.marshal_write.specs.write.Marks.{marks_of}
use Rattle.marshal_write.specs.write.WriteWalk.{AreMarked}
use Rattle.marshal_write.proofs.graft.GraftOrderLemmas.{AreOrdered}
use Rattle.marshal_write.proofs.graft.write_order.order_of.Given as goal

abbrev pub invariant-loop-k : goal.invariant-loop-k
invariant-loop-k l = record {
  many : length l.order.items ≡ l.last;
  ordered : (g : List Obj) (ks : List ℕ) (m : AreMarked g ks (length ks) (marks_of l.numbers.marks))
      → AreOrdered g ks (marks_of l.numbers.marks) m l.order.items l.k;
}
