use Rattle.std.proofs.Common.{◌≡◌, ◌∷◌, ◌++◌, [], ◌∙◌, ap, sym, subst}
use Rattle.std.specs.Prelude.{All}
use Rattle.marshal_write.specs.write.WriteWalk.{IsOuter, Takes, fields_left, left_in, left_of}
use Rattle.marshal_write.proofs.write.WriterFrameLemmas.{outer_takes, frames_split}
use Rattle.marshal_write.proofs.write.write_walk.WriteWalk.next_word.Goals as goal

pub returns-clause-takes : goal.returns-clause-takes
returns-clause-takes c =
    let g = c.args.heap.now in
    let frames = c.pop.new.self.items in
    let frame = c.in_ok-self.field-0 in
    let parts = frames_split g frames frame (subst (All (IsOuter g)) c.in_ok-self.ensures.items c.requires.frames) in
    let old : left_of g c.args.self.now ≡ left_in g (frames ++ frame ∷ []) =
    ap (λ vs. vs ++ left_in g c.args.self.now.frames.items) c.in_default.ensures.takes.0 ∙ ap (left_in g) c.in_ok-self.ensures.items in
    subst (λ vs. Takes g vs (fields_left g c.take-2.new.self ++ left_in g frames) c.take-2.result) (sym old)
    (outer_takes g frames frame (fields_left g c.take-2.new.self) c.take-2.result parts.1 c.take-2.ensures.takes)
