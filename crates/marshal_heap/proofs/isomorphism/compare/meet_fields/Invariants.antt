use Rattle.std.proofs.Common.{◌≡◌, take}
use Rattle.marshal_heap.specs.heap.Heap.{object_at, fields_of}
use Rattle.marshal_heap.specs.isomorphism.Meeting.{AreMet}
use Rattle.marshal_heap.proofs.isomorphism.IsomorphismFieldLemmas.{AgreeFields}
use Rattle.marshal_heap.proofs.isomorphism.compare.meet_fields.Given as goal

abbrev pub invariant-loop-i : goal.invariant-loop-i
invariant-loop-i l = record {
  met : AreMet l.fn.pairing.pairs l.pairing.pairs (AgreeFields (take l.i (fields_of (object_at l.left l.k))) (take l.i (fields_of (object_at l.right l.l))));
  lefts : l.pairing.lefts ≡ l.fn.pairing.lefts;
  rights : l.pairing.rights ≡ l.fn.pairing.rights;
}
