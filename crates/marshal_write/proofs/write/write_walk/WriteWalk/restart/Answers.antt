use Rattle.std.proofs.Common.{◌∙◌, ap, refl, sym, replicate, arith}
use Rattle.marshal_write.proofs.write.WriterWalkLemmas.{start_walk, end_in_order}
use Rattle.marshal_write.proofs.write.write_walk.WriteWalk.restart.Goals as goal

pub returns-clause-walk : goal.returns-clause-walk
returns-clause-walk c =
    start_walk _ _ c.count-graph.ensures.heap c.requires.walk.value refl refl refl refl c.clear-2.ensures.items c.clear-2.ensures.len
    (c.clear.ensures.marks ∙ ap (λ n. replicate n 0) c.requires.walk.marks) c.clear.ensures.met (omega (arith, c.requires.walk.room, c.clear-2.ensures.capacity))
    (λ tree is_of.
    let at = c.requires.walk.at tree is_of in
    (at.ks, at.numbering, λ again ordered. end_in_order c.args.heap.now tree c.args.self.now at (c.requires.end tree is_of) (sym c.clear.ensures.ordered ∙ ordered)))
