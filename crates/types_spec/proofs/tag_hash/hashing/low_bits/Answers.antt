use Rattle.types_spec.proofs.tag_hash.Digits.{low-push}
use Rattle.types_spec.proofs.tag_hash.hashing.low_bits.Goals as goal

pub loop-byte-preserved : goal.loop-byte-preserved
loop-byte-preserved c = low-push c.args.tag.now c.loop-byte.byte-index c.loop-byte.bits c.from.result c.loop-byte-test.true c.loop-byte.invariant c.from.ensures
