use Rattle.std.proofs.Common.{◌∙◌, arith}
use Rattle.marshal_heap.proofs.heap.StoredLemmas.{held}
use Rattle.marshal_heap.proofs.heap.ChangeLemmas.{many_positions, many_words, position_at, object_inside}
use Rattle.marshal_heap.proofs.heap.heap.Heap.position.Goals as goal

pub get-requires : goal.get-requires
get-requires c = omega (arith, many_positions _ _ _ (held _ _ _ c.self.invariant c.self.view_is))

pub returns-clause-position : goal.returns-clause-position
returns-clause-position c = c.get.ensures ∙ position_at _ _ c.args.self.now (held _ _ _ c.self.invariant c.self.view_is) c.args.o 0 c.requires

pub returns-clause-small : goal.returns-clause-small
returns-clause-small c =
    let h = held _ _ c.args.self.now c.self.invariant c.self.view_is in
    omega (arith, c.get.ensures ∙ position_at _ _ c.args.self.now h c.args.o 0 c.requires, object_inside _ _ c.args.self.now h c.args.o c.requires, many_words _ _ _ h, h.heap.words)
