use Rattle.std.proofs.Common.{◌≡◌, ◌-◌, length}
use Rattle.marshal_heap.specs.isomorphism.SoFar.{IsSoFar}
use Rattle.marshal_heap.proofs.isomorphism.compare.same_from.Given as goal

abbrev pub invariant-loop-i : goal.invariant-loop-i
invariant-loop-i l = record {
  far : IsSoFar l.left l.fn.v l.right l.fn.w l.pairing.pairs l.i;
  lefts : l.pairing.lefts ≡ length l.left;
  rights : l.pairing.rights ≡ length l.right;
}

abbrev pub decreases-loop-i : goal.decreases-loop-i
decreases-loop-i l = l.pairing.lefts - l.i
