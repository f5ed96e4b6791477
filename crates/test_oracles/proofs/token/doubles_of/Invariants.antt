use Rattle.std.proofs.Common.{◌*◌, take}
use Rattle.base_data.specs.model.Bytes.{EncodesDoubles}
use Rattle.test_oracles.proofs.token.doubles_of.Given as goal

-- The doubles read so far are encoded by the first `8 * i` bytes.
abbrev pub invariant-loop-i : goal.invariant-loop-i
invariant-loop-i l = EncodesDoubles l.little l.all.items (take (8 * l.i) l.bytes)
