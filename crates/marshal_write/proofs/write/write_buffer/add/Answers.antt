use Rattle.std.proofs.Common.{[]}
use Rattle.marshal_write.proofs.write.WriterTextLemmas.{adds_part_of, adds_if_failed}
use Rattle.marshal_write.proofs.write.write_buffer.add.Goals as goal

pub returns-in_err-make_room-clause-adds : goal.returns-in_err-make_room-clause-adds
returns-in_err-make_room-clause-adds g c =
    let old = g.K.Sink.state c.args.out.now in
    let new = g.K.Sink.state c.make_room.new.out in
    adds_if_failed old new _ _ _ c.from_residual.result c.from_residual.ensures.0
    (adds_part_of old new c.args.buffer.now.items [] c.args.chunk.now c.in_err-make_room.ensures.adds)
