use Rattle.std.proofs.Common.{◌≡◌, take}
use Rattle.base_data.specs.model.Bytes.{number}
use Rattle.base_data.proofs.model.bytes.big_endian.Given as goal

-- The value is the number that the bytes before the current byte encode.
abbrev pub invariant-loop-byte : goal.invariant-loop-byte
invariant-loop-byte l = l.value ≡ number (take l.byte-index l.bytes)
