use Rattle.std.proofs.Common.{length, arith}
use Rattle.text_decimal.proofs.texts.PositionsLemmas.{first_within, others_within, last_within, plain_more}
use Rattle.text_decimal.proofs.texts.plain_texts.write_plain.Goals as goal

pub slice_bounds-write-end : goal.slice_bounds-write-end
slice_bounds-write-end c =
    let ds = c.args.decimals.now in
    let i = c.loop-decimal.decimal-index in
    let n = length c.args.text.now in
    let w = c.loop-decimal.invariant.1 in
    omega (arith, first_within ds i c.loop-decimal-test.true c.loop-decimal.at n w, last_within ds i c.loop-decimal-test.true c.loop-decimal.at n w)

pub overflow_add-at : goal.overflow_add-at
overflow_add-at c = omega (arith, last_within c.args.decimals.now c.loop-decimal.decimal-index c.loop-decimal-test.true c.loop-decimal.at (length c.args.text.now) c.loop-decimal.invariant.1)

pub loop-decimal-preserved : goal.loop-decimal-preserved
loop-decimal-preserved c =
    let ds = c.args.decimals.now in
    let i = c.loop-decimal.decimal-index in
    let n = length c.args.text.now in
    let v = c.loop-decimal.invariant in (
      last_within ds i c.loop-decimal-test.true c.loop-decimal.at n v.1,
      others_within ds i c.loop-decimal-test.true c.loop-decimal.at n v.1,
      plain_more ds i c.loop-decimal-test.true c.args.text.now c.loop-decimal.at _ _ _ _ v.2 c.in_ok-write.ensures c.in_ok-write_float.ensures,
    )
