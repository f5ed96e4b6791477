use Rattle.std.proofs.Common.{arith}
use Rattle.base_data.proofs.model.Numbers.{are_bytes, number_step}
use Rattle.base_data.proofs.model.bytes.big_endian.Goals as goal

-- If at most eight bytes are read, then appending one byte to the number does not overflow.
pub overflow_mul-value : goal.overflow_mul-value
overflow_mul-value c = omega (arith, number_step c.args.bytes.now c.loop-byte.byte-index (are_bytes _ c.type_inv.bytes) c.loop-byte-test.true c.requires)

pub overflow_add-value : goal.overflow_add-value
overflow_add-value c = omega (arith, number_step c.args.bytes.now c.loop-byte.byte-index (are_bytes _ c.type_inv.bytes) c.loop-byte-test.true c.requires)
