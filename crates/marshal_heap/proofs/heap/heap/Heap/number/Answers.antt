use Rattle.std.proofs.Common.{◌≡◌, ◌/◌, ◌<◌, length, sym, ◌∙◌, arith}
use Rattle.marshal_heap.specs.heap.Heap.{position}
use Rattle.marshal_heap.proofs.heap.StoredLemmas.{held}
use Rattle.marshal_heap.proofs.heap.ChangeLemmas.{many_positions, position_at}
use Rattle.marshal_heap.proofs.heap.heap.Heap.number.Goals as goal

pub number-requires : goal.number-requires
number-requires c =
    let h = held _ _ c.args.self.now c.self.invariant c.self.view_is in
    let k = c.requires.0 in
    let here : c.args.word / 8 ≡ position c.args.self.now k = omega (arith, c.requires.2) in
    (k, omega (arith, many_positions _ _ _ h), position_at _ _ _ h k (c.args.word / 8) c.requires.1 ∙ sym here)

pub returns-clause-in_range : goal.returns-clause-in_range
returns-clause-in_range c =
    omega (arith, c.number.ensures.in_range, many_positions _ _ _ (held _ _ c.args.self.now c.self.invariant c.self.view_is))

pub returns-clause-named : goal.returns-clause-named
returns-clause-named c =
    let h = held _ _ c.args.self.now c.self.invariant c.self.view_is in
    let inside : c.number.result < length c.args.self.now = omega (arith, c.number.ensures.in_range, many_positions _ _ _ h) in
    omega (arith, c.requires.2, c.number.ensures.position, position_at _ _ _ h c.number.result 0 inside)
