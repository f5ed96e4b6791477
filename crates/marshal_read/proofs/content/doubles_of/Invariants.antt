use Rattle.std.proofs.Common.{◌*◌, take}
use Rattle.base_data.specs.model.Bytes.{EncodesDoubles}
use Rattle.marshal_read.proofs.content.doubles_of.Given as goal

-- The first 8 * `i` bytes encode the doubles decoded so far.
abbrev pub invariant-loop-i : goal.invariant-loop-i
invariant-loop-i l = EncodesDoubles l.little l.all.items (take (8 * l.i) l.bytes)
