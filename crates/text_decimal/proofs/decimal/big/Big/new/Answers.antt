use Rattle.std.proofs.Common.{replicate}
use native.Mathlib.Omega.{arith}
use Rattle.text_decimal.proofs.decimal.LimbsLemmas.{number_below-zero, word_fits}
use Rattle.text_decimal.proofs.decimal.big.Big.new.Goals as goal
use Rattle.base_data.proofs.model.Lists.{slice_index-zeros}

pub invariant_of-big : goal.invariant_of-big
invariant_of-big c = (omega arith, λ i h. slice_index-zeros 74 i)

pub mul_add-requires : goal.mul_add-requires
mul_add-requires c = omega (arith, word_fits c.args.n c.ranges.n.fits, number_below-zero (replicate 74 0))

pub returns : goal.returns
returns c = omega (arith, number_below-zero (replicate 74 0))
