use Rattle.std.proofs.Common.{◌∙◌, sym}
use Rattle.marshal_write.proofs.write.WriterFrameLemmas.{at_position}
use Rattle.marshal_write.proofs.write.write_walk.WriteWalk.value_of.Goals as goal

pub returns-then-word-self-clause-valid : goal.returns-then-word-self-clause-valid
returns-then-word-self-clause-valid c =
    at_position c.args.heap.now c.args.self.now.count c.args.word c.requires.heap c.requires.word (c.if-word-self.true ∙ c.requires.next (sym c.is_ordered.ensures ∙ c.if-is_ordered.true))
