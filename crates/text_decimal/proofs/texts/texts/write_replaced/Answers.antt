use Rattle.std.proofs.Common.{length, arith}
use Rattle.text_decimal.proofs.texts.DecimalTextReplacedLemmas.{last_within, first_within, spans_behind, so_far_here, so_far_more}
use Rattle.text_decimal.proofs.texts.texts.write_replaced.Goals as goal

pub slice_bounds-write-end : goal.slice_bounds-write-end
slice_bounds-write-end c =
    let w = first_within c.args.lexemes.now c.loop-lexeme.at c.loop-lexeme.lexeme-index c.lexeme-item.result
    (length c.args.text.now) c.loop-lexeme-test.true c.lexeme-item.is c.loop-lexeme.invariant.1 in
    omega (arith, w.0, w.1)

pub write_lexeme-requires : goal.write_lexeme-requires
write_lexeme-requires c =
    last_within c.args.lexemes.now c.loop-lexeme.at c.loop-lexeme.lexeme-index c.lexeme-item.result
    (length c.args.text.now) c.loop-lexeme-test.true c.lexeme-item.is c.loop-lexeme.invariant.1

pub overflow_add-at : goal.overflow_add-at
overflow_add-at c =
    omega (
      arith,
      last_within c.args.lexemes.now c.loop-lexeme.at c.loop-lexeme.lexeme-index c.lexeme-item.result
          (length c.args.text.now) c.loop-lexeme-test.true c.lexeme-item.is c.loop-lexeme.invariant.1,
    )

pub loop-lexeme-preserved : goal.loop-lexeme-preserved
loop-lexeme-preserved c =
    let all = c.args.lexemes.now in
    let i = c.loop-lexeme.lexeme-index in
    let l = c.lexeme-item.result in
    let n = length c.args.text.now in (
      last_within all c.loop-lexeme.at i l n c.loop-lexeme-test.true c.lexeme-item.is c.loop-lexeme.invariant.1,
      spans_behind all c.loop-lexeme.at i l n c.loop-lexeme-test.true c.lexeme-item.is c.loop-lexeme.invariant.1,
      so_far_more c.args.text.now all c.loop-lexeme.at c.loop-lexeme.may _ l _ _ _ _ _
          (so_far_here all c.loop-lexeme.at i l n c.loop-lexeme-test.true c.lexeme-item.is c.args.text.now _ _
          c.loop-lexeme.may c.loop-lexeme.invariant.2)
          c.in_ok-write.ensures c.in_ok-write_lexeme.ensures c.may_after-may.ensures,
    )
