use Rattle.std.proofs.Common.{◌^◌, arith}
use Rattle.text_decimal.proofs.texts.PositionsLemmas.{others_within, last_within, given_more}
use Rattle.text_decimal.proofs.texts.decimals.given_position.Goals as goal

pub overflow_add-begins : goal.overflow_add-begins
overflow_add-begins c =
    omega (arith, c.loop-decimal.invariant.1, c.requires.small, last_within c.args.decimals.now c.loop-decimal.decimal-index c.loop-decimal-test.true c.loop-decimal.at (2 ^ 63) c.loop-decimal.invariant.2)

pub overflow_add-at : goal.overflow_add-at
overflow_add-at c = omega (arith, last_within c.args.decimals.now c.loop-decimal.decimal-index c.loop-decimal-test.true c.loop-decimal.at (2 ^ 63) c.loop-decimal.invariant.2)

pub loop-decimal-preserved : goal.loop-decimal-preserved
loop-decimal-preserved c =
    let ds = c.args.decimals.now in
    let i = c.loop-decimal.decimal-index in
    let v = c.loop-decimal.invariant in (
      last_within ds i c.loop-decimal-test.true c.loop-decimal.at (2 ^ 63) v.2,
      c.if-byte-begins-2.false,
      others_within ds i c.loop-decimal-test.true c.loop-decimal.at (2 ^ 63) v.2,
      given_more ds i c.loop-decimal-test.true c.loop-decimal.at c.loop-decimal.plain c.args.byte _ c.if-byte-begins-2.false v.3,
    )
