use Rattle.std.proofs.Common.{◌≡◌, inl, inr, arith, subst}
use Rattle.std.proofs.lemmas.Bool.{cases_lt}
use Rattle.text_decimal.specs.decimal.Doubles.{Reads}
use Rattle.text_decimal.proofs.decimal.NearestLemmas.{few_powers}
use Rattle.text_decimal.proofs.decimal.DecimalSearchLemmas.{none_at}
use Rattle.text_decimal.proofs.decimal.decimal_search.search.Goals as goal

pub returns : goal.returns
returns c digits power r = c.loop-power.invariant digits power (omega (arith, few_powers c.args.size.bits digits power c.args.size.some r, c.loop-power-test.false)) r

pub loop-power-preserved : goal.loop-power-preserved
loop-power-preserved c digits p l r =
    let d = c.least_digits-digits in
    elim (cases_lt p c.loop-power.power) [
      | inl a ↦ c.loop-power.invariant digits p a r
      | inr b ↦
          let e : p ≡ c.loop-power.power = omega arith in
          none_at c.args.size.bits c.loop-power.power d.result c.nearest_bits.result d.ensures.range.1 d.ensures.least d.ensures.reaches c.nearest_bits.ensures c.if-nearest_bits-size.false digits
          (subst (Reads c.args.size.bits digits) e r)
    ]
