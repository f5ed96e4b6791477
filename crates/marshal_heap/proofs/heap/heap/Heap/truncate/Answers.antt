use Rattle.std.proofs.Common.{◌≡◌, ℕ, take, ap, ◌∙◌, arith}
use Rattle.marshal_heap.specs.heap.Heap.{position}
use Rattle.marshal_heap.proofs.heap.StoredLemmas.{held}
use Rattle.marshal_heap.proofs.heap.StoredLemmas.{Holds, seen, stored}
use Rattle.marshal_heap.proofs.heap.ChangeLemmas.{many_positions, object_inside, dropped}
use Rattle.marshal_heap.proofs.heap.heap.Heap.truncate.Goals as goal

pub truncate-requires : goal.truncate-requires
truncate-requires c =
    let h = held _ _ c.args.self.now c.self.invariant c.self.view_is in
    omega (arith, c.position-end.ensures.position, object_inside _ _ c.args.self.now h c.args.count (omega (arith, c.count.ensures.count)))

pub truncate-requires-then-count : goal.truncate-requires-then-count
truncate-requires-then-count c = omega (arith, c.requires.in_range, many_positions _ _ _ (held _ _ c.args.self.now c.self.invariant c.self.view_is))

holds_here : (c : goal.After-truncate-then-count) → Holds c.truncate.new.self.words c.truncate-then-count.new.self (take c.args.count c.args.self.now)
holds_here c =
    let graph = c.args.self.now in
    let words : c.truncate.new.self.words ≡ take (position graph c.args.count) c.self.inside.region.words =
    c.truncate.ensures.words ∙ ap (λ (n : ℕ). take n c.self.inside.region.words) c.position-end.ensures.position in
    rw (words, c.truncate-then-count.ensures) (dropped _ _ graph (held _ _ graph c.self.invariant c.self.view_is) c.args.count c.requires.in_range c.requires.closed)

pub invariant_of-self : goal.invariant_of-self
invariant_of-self c = stored _ _ _ (holds_here c)

pub returns-then-count : goal.returns-then-count
returns-then-count c = seen _ _ _ (holds_here c)
