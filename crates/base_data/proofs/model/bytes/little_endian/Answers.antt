use Rattle.std.proofs.Common.{arith}
use Rattle.base_data.proofs.model.Numbers.{are_bytes, little_number_step}
use Rattle.base_data.proofs.model.bytes.little_endian.Goals as goal

-- If at most eight bytes are read, then adding one byte to the number does not overflow.
pub overflow_mul-value : goal.overflow_mul-value
overflow_mul-value c = omega (arith, little_number_step c.args.bytes.now c.loop-i.i (are_bytes _ c.type_inv.bytes) c.loop-i-test.true c.loop-i.auto.i c.requires)

pub overflow_add-value : goal.overflow_add-value
overflow_add-value c = omega (arith, little_number_step c.args.bytes.now c.loop-i.i (are_bytes _ c.type_inv.bytes) c.loop-i-test.true c.loop-i.auto.i c.requires)
