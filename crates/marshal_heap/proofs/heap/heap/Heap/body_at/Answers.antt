use Rattle.std.proofs.Common.{◌≡◌, ◌/◌, ◌∙◌, arith}
use Rattle.marshal_heap.specs.heap.Heap.{position}
use Rattle.marshal_heap.proofs.heap.StoredLemmas.{held}
use Rattle.marshal_heap.proofs.heap.ChangeLemmas.{many_words, object_valid, body_here, body_inside}
use Rattle.marshal_heap.proofs.heap.heap.Heap.body_at.Goals as goal

pub body_in-requires-clause-small : goal.body_in-requires-clause-small
body_in-requires-clause-small c =
    let h = held _ _ c.args.self.now c.self.invariant c.self.view_is in
    omega (arith, many_words _ _ _ h, h.heap.words)

pub body_in-requires-clause-inside : goal.body_in-requires-clause-inside
body_in-requires-clause-inside c =
    let at : c.args.word / 8 ≡ position c.args.self.now c.requires.0 = omega (arith, c.requires.2) in
    body_inside _ _ c.args.self.now (held _ _ c.args.self.now c.self.invariant c.self.view_is) c.requires.0 (c.args.word / 8) c.requires.1 at

pub returns-clause-words : goal.returns-clause-words
returns-clause-words c = λ k inside named.
    let at : c.args.word / 8 ≡ position c.args.self.now k = omega (arith, named) in
    c.body_in.ensures ∙ body_here _ _ c.args.self.now (held _ _ c.args.self.now c.self.invariant c.self.view_is) k (c.args.word / 8) inside at

pub returns-clause-valid : goal.returns-clause-valid
returns-clause-valid c = λ k inside named. object_valid _ _ c.args.self.now (held _ _ c.args.self.now c.self.invariant c.self.view_is) k inside
