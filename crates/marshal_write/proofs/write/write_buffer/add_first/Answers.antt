use Rattle.std.proofs.Common.{◌≡◌, ◌+◌, ◌++◌, [], length, take, arith, rules}
use Rattle.std.proofs.lemmas.Grind.{common_steps}
use Rattle.marshal_write.proofs.write.WriterTextLemmas.{adds_first, adds_part_of, adds_if_failed}
use Rattle.marshal_write.proofs.write.write_buffer.add_first.Goals as goal

pub returns-in_err-make_room-clause-adds : goal.returns-in_err-make_room-clause-adds
returns-in_err-make_room-clause-adds g c =
    let old = g.K.Sink.state c.args.out.now in
    let new = g.K.Sink.state c.make_room.new.out in
    adds_if_failed old new _ _ _ c.from_residual.result c.from_residual.ensures.0
    (adds_part_of old new c.args.buffer.now.items [] (take c.args.n c.args.chunk.now) c.in_err-make_room.ensures.adds)

pub returns-clause-adds : goal.returns-clause-adds
returns-clause-adds g c =
    let prefix : c.truncate.new.self.items ≡ take (length c.make_room.new.buffer.items + c.args.n) (c.make_room.new.buffer.items ++ c.args.chunk.now) =
    first_of (search rules, grind (arith, common_steps)) in
    adds_first (g.K.Sink.state c.args.out.now) (g.K.Sink.state c.make_room.new.out) c.args.buffer.now.items c.make_room.new.buffer.items c.truncate.new.self.items c.args.chunk.now c.args.n
    c.in_ok-make_room.ensures.adds prefix
