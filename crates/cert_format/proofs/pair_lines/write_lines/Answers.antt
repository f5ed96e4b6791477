use Rattle.std.proofs.Common.{List, ℕ, arith, subst}
use Rattle.base_io.specs.StreamState.{change}
use Rattle.cert_format.specs.TextWrites.{LeavesText}
use Rattle.cert_format.proofs.SinkLemmas.{leaves_then, leaves_more, part_then, prefix_fails, lines_more, part_of_lines}
use Rattle.cert_format.proofs.pair_lines.write_lines.Goals as goal

pub returns-in_err-make_room-clause-writes : goal.returns-in_err-make_room-clause-writes
returns-in_err-make_room-clause-writes g c =
    prefix_fails _ _ _ _ c.from_residual.result c.from_residual.ensures.0
    (part_of_lines _ _ c.args.text.now.items c.args.pairs.now c.loop-i.i
    (part_then _ _ _ _ _ c.loop-i.invariant.leaves c.in_err-make_room.ensures.writes))

pub loop-i-preserved : goal.loop-i-preserved
loop-i-preserved g c =
    let room = c.in_ok-make_room.ensures.room in
    let kept = c.append_pair.ensures.room in record {
      leaves = subst
          (λ (t : List ℕ). LeavesText (change (g.K.Sink.state c.args.out.now) (g.K.Sink.state c.make_room.new.out)) t c.append_pair.new.text.items)
          (lines_more c.args.text.now.items c.args.pairs.now c.loop-i.i (c.at-object.result.0, c.at-object.result.1) c.at-object.ensures)
          (leaves_more _ _ _ _ _ _ (leaves_then _ _ _ _ _ c.loop-i.invariant.leaves _ c.in_ok-make_room.ensures.writes) c.append_pair.ensures.text);
      room = omega (arith, room, kept);
    }
