use Rattle.std.proofs.Common.{refl}
use Rattle.marshal_write.proofs.write.WriterFrameLemmas.{taken, take_some}
use Rattle.marshal_write.proofs.write.write_walk.RemainingFields.take.Goals as goal

pub returns-clause-takes : goal.returns-clause-takes
returns-clause-takes c =
    take_some c.args.heap.now c.args.self.now (record { block = c.args.self.now.block; rest = c.in_ok-word.rest }) c.in_ok-word.word.now c.requires refl c.in_ok-word.ensures.cases.0

pub returns-clause-frame : goal.returns-clause-frame
returns-clause-frame c =
    (taken c.args.heap.now c.args.self.now (record { block = c.args.self.now.block; rest = c.in_ok-word.rest }) c.in_ok-word.word.now c.requires refl c.in_ok-word.ensures.cases.0).is_frame
