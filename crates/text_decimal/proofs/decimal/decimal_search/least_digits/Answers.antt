use Rattle.std.proofs.Common.{arith}
use Rattle.text_decimal.proofs.decimal.DecimalSearchLemmas.{less_up_to, no_less}
use Rattle.text_decimal.proofs.decimal.decimal_search.least_digits.Goals as goal

pub loop-low-preserved-then-nearest_bits-size : goal.loop-low-preserved-then-nearest_bits-size
loop-low-preserved-then-nearest_bits-size c =
    let v = c.loop-low.invariant in
    (omega arith, omega arith, v.2, less_up_to c.args.size c.args.power _ _ c.nearest_bits.ensures c.if-nearest_bits-size.true, v.4)

pub loop-low-preserved : goal.loop-low-preserved
loop-low-preserved c =
    let v = c.loop-low.invariant in
    (v.0, omega arith, omega arith, v.3, λ _. no_less c.args.size c.args.power _ _ c.nearest_bits.ensures c.if-nearest_bits-size.false)
