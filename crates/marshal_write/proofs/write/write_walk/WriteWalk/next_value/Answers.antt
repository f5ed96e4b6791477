use Rattle.std.proofs.Common.{◌∙◌}
use Rattle.marshal_write.specs.write.WriteWalk.{left_of}
use Rattle.marshal_write.proofs.write.WriterFrameLemmas.{value_taken}
use Rattle.marshal_write.proofs.write.WriterWalkLemmas.{later}
use Rattle.marshal_write.proofs.write.write_walk.WriteWalk.next_value.Goals as goal

pub returns-clause-value : goal.returns-clause-value
returns-clause-value c =
    let g = c.args.heap.now in
    later g c.args.self.now c.if-self-eq0.false
    ∙ value_taken g (left_of g c.args.self.now) (left_of g c.next_word.new.self) c.in_ok-word.word c.value_of.result c.requires.heap c.in_ok-word.ensures.takes c.value_of.ensures.word c.value_of.ensures.valid
