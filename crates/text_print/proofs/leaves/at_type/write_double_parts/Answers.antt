use Rattle.std.proofs.Common.{get_or, refl, arith}
use Rattle.text_print.specs.leaves.Frames.{double_text}
use Rattle.text_print.specs.leaves.FrameView.{frame_in}
use Rattle.text_print.proofs.leaves.LeafRowLemmas.{row_step}
use Rattle.text_print.proofs.leaves.at_type.write_double_parts.Goals as goal

pub loop-i-preserved : goal.loop-i-preserved
loop-i-preserved c = row_step (frame_in c.args.frame.now) (double_text c.args.shape.now) c.args.doubles.now c.loop-i.i (get_or c.args.doubles.now c.loop-i.i 0) 0
    c.args.text.now.items c.loop-i.text.items c.write_before.new.text.items c.write_double.new.text.items
    (omega arith) refl c.loop-i.invariant c.in_ok-write_before.ensures c.in_ok-write_double.ensures
