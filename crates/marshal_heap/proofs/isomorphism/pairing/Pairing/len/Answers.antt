use Rattle.marshal_heap.specs.isomorphism.Meeting.{AreOneToOne, AreInRange}
use Rattle.marshal_heap.specs.isomorphism.Paired.{Paired}
use Rattle.std.proofs.Common.{subst}
use Rattle.marshal_heap.proofs.isomorphism.IndexLemmas.{one_to_one_of, pairs_in_range}
use Rattle.marshal_heap.proofs.isomorphism.pairing.Pairing.len.Goals as goal

pub returns-clause-one_to_one : goal.returns-clause-one_to_one
returns-clause-one_to_one c =
    subst (λ (p : Paired). AreOneToOne p.pairs) c.self.view_is
    (one_to_one_of c.self.inside.left.items c.self.inside.right.items c.self.inside.pairs.items c.self.invariant.0 c.self.invariant.1)

pub returns-clause-in_range : goal.returns-clause-in_range
returns-clause-in_range c =
    subst (λ (p : Paired). AreInRange p.pairs p.lefts p.rights) c.self.view_is
    (pairs_in_range c.self.inside.left.items c.self.inside.right.items c.self.inside.pairs.items c.self.invariant.0 c.self.invariant.1)
