use native.Mathlib.Omega.{arith}
use Rattle.text_decimal.proofs.decimal.LimbsLemmas.{power_step}
use Rattle.text_decimal.proofs.decimal.big.Big.times_tens.Goals as goal

pub mul_add-requires : goal.mul_add-requires
mul_add-requires c = omega (arith, power_step 10 1 c.loop-left.self c.loop-left.left (omega arith) (omega arith))

pub loop-left-preserved : goal.loop-left-preserved
loop-left-preserved c = rw c.mul_add.ensures (omega (arith, power_step 10 1 c.loop-left.self c.loop-left.left (omega arith) (omega arith)))
