use Rattle.std.proofs.Common.{◌+◌, ◌<◌, ◌∙◌, length, sym, arith}
use Rattle.base_data.proofs.model.Options.{slice_get_there}
use Rattle.check_heap.proofs.fits.FitsRowLemmas.{agree_more, all_agree}
use Rattle.check_heap.proofs.fits.word_conditions.more_agree.Goals as goal

pub loop-more-preserved : goal.loop-more-preserved
loop-more-preserved c =
    let blocks = c.args.blocks.now in
    let more = c.loop-more.more in
    let inside : more + 1 < length blocks = omega (arith, c.if-more-blocks.true) in
    let first = slice_get_there blocks 0 (omega (arith, inside)) in
    let next = slice_get_there blocks (more + 1) inside in
    agree_more blocks more first.0 next.0 c.loop-more.invariant c.loop-more-test.true inside first.1 next.1
    (sym (c.size_at.ensures next.0 next.1) ∙ c.if-size_at-size.false ∙ c.size_at-size.ensures first.0 first.1)

pub returns-then-size_at-size : goal.returns-then-size_at-size
returns-then-size_at-size c =
    let blocks = c.args.blocks.now in
    let first = slice_get_there blocks 0 (omega (arith, c.loop-more.invariant.there)) in
    all_agree blocks c.loop-more.more c.size_at-size.result first.0 first.1 (c.size_at-size.ensures first.0 first.1)
    (λ large. omega (arith, large, c.if-size.false)) c.loop-more.invariant

pub returns-else-more-blocks : goal.returns-else-more-blocks
returns-else-more-blocks c =
    let blocks = c.args.blocks.now in
    let first = slice_get_there blocks 0 (omega (arith, c.loop-more.invariant.there)) in
    all_agree blocks c.loop-more.more c.size_at-size.result first.0 first.1 (c.size_at-size.ensures first.0 first.1)
    (λ large. omega (arith, large, c.if-size.false)) c.loop-more.invariant

pub returns-after-loop-more : goal.returns-after-loop-more
returns-after-loop-more c =
    let blocks = c.args.blocks.now in
    let first = slice_get_there blocks 0 (omega (arith, c.loop-more.invariant.there)) in
    all_agree blocks c.loop-more.more c.size_at-size.result first.0 first.1 (c.size_at-size.ensures first.0 first.1)
    (λ large. omega (arith, large, c.if-size.false)) c.loop-more.invariant
