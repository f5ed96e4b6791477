use Rattle.std.proofs.Common.{◌≡◌, ◌%◌, ◌^◌, take}
use Rattle.types_spec.specs.tag_hash.TagHash.{number_of_tag}
use Rattle.types_spec.proofs.tag_hash.hashing.low_bits.Given as goal

abbrev pub invariant-loop-byte : goal.invariant-loop-byte
invariant-loop-byte l = l.bits ≡ number_of_tag (take l.byte-index l.tag) % 2 ^ 31
