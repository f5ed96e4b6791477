-- The frame that a frame over borrowed names represents.
use Rattle.std.specs.Prelude.{[], ◌++◌, codes}
use Rattle.text_print.specs.leaves.Frames.{Frame, named_frame, listed, array_frame}
use Rattle.text_print.specs.declared.leaves.frame.Frame.{Frame as Borrowed}
use Rattle.text_print.specs.declared.leaves.frame.Frame.TheVariants as borrowed

abbrev pub frame_in : Borrowed → Frame
frame_in (borrowed.Constructor names) = named_frame names.now.name names.now.fields
frame_in (borrowed.Fields fields) = named_frame [] fields.now
frame_in (borrowed.Tagged name) = listed (codes "`" ++ name.now)
frame_in borrowed.Array = array_frame
