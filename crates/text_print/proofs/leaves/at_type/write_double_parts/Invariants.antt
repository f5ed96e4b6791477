use Rattle.std.proofs.Common.{◌≡◌, ◌++◌, take}
use Rattle.std.specs.Prelude.{map}
use Rattle.text_print.specs.leaves.Frames.{double_text, row_from}
use Rattle.text_print.specs.leaves.FrameView.{frame_in}
use Rattle.text_print.proofs.leaves.at_type.write_double_parts.Given as goal

abbrev pub invariant-loop-i : goal.invariant-loop-i
invariant-loop-i l = l.text.items ≡ l.fn.text.items ++ row_from (frame_in l.frame) 0 (map (double_text l.shape) (take l.i l.doubles))
