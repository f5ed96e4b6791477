use Rattle.std.proofs.Common.{◌≡◌, ◌/◌, ◌∙◌, arith}
use Rattle.marshal_heap.specs.heap.Heap.{position}
use Rattle.marshal_heap.proofs.heap.StoredLemmas.{held}
use Rattle.marshal_heap.proofs.heap.ChangeLemmas.{header_here, header_inside}
use Rattle.marshal_heap.proofs.heap.heap.Heap.header_at.Goals as goal

pub get-requires : goal.get-requires
get-requires c =
    let at : c.args.word / 8 ≡ position c.args.self.now c.requires.0 = omega (arith, c.requires.2) in
    header_inside _ _ c.args.self.now (held _ _ c.args.self.now c.self.invariant c.self.view_is) c.requires.0 (c.args.word / 8) c.requires.1 at

pub returns : goal.returns
returns c = λ k inside named.
    let at : c.args.word / 8 ≡ position c.args.self.now k = omega (arith, named) in
    c.get.ensures ∙ header_here _ _ c.args.self.now (held _ _ c.args.self.now c.self.invariant c.self.view_is) k (c.args.word / 8) inside at
