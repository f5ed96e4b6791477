use Rattle.std.proofs.Common.{◌++◌, ◌∙◌, ap, sym, subst}
use Rattle.std.specs.Prelude.{All}
use Rattle.std.proofs.lemmas.List.Elements.{All-push}
use Rattle.marshal_write.specs.write.WriteWalk.{IsOuter, left_in}
use Rattle.marshal_write.proofs.write.WriterFrameLemmas.{left_in-push, some_words, no_word}
use Rattle.marshal_write.proofs.write.WriterWalkLemmas.{no_words}
use Rattle.marshal_write.proofs.write.write_walk.WriteWalk.open.Goals as goal

pub returns-then-is_empty-clause-left : goal.returns-then-is_empty-clause-left
returns-then-is_empty-clause-left c =
    let g = c.args.heap.now in
    let walk = c.args.self.now in
    sym (ap (λ vs. vs ++ left_in g walk.frames.items) (no_words g walk.last (no_word walk.last.rest.now (sym c.is_empty.ensures ∙ c.if-is_empty.true))).nothing)

pub returns-clause-left : goal.returns-clause-left
returns-clause-left c =
    let g = c.args.heap.now in
    let walk = c.args.self.now in
    ap (left_in g) c.push_reserved.ensures.items ∙ left_in-push g walk.frames.items walk.last

pub returns-clause-frames : goal.returns-clause-frames
returns-clause-frames c =
    let g = c.args.heap.now in
    let walk = c.args.self.now in
    subst (All (IsOuter g)) (sym c.push_reserved.ensures.items)
    (All-push (IsOuter g) walk.frames.items walk.last c.requires.frames (c.requires.last, some_words walk.last.rest.now (sym c.is_empty.ensures ∙ c.if-is_empty.false)))
