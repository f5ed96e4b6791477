use Rattle.std.proofs.Common.{◌≡◌, drop}
use Rattle.base_data.specs.model.Bytes.{little_number}
use Rattle.base_data.proofs.model.bytes.little_endian.Given as goal

-- The value is the number that the bytes from index `i` on encode.
abbrev pub invariant-loop-i : goal.invariant-loop-i
invariant-loop-i l = l.value ≡ little_number (drop l.i l.bytes)
