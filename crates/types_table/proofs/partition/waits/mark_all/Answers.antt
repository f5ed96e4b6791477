use Rattle.std.proofs.Common.{ℕ, ◌≡◌, length, get_or, subst, arith}
use Rattle.std.specs.Prelude.{Contains, slice_index}
use Rattle.base_data.proofs.model.Lists.{take-whole}
use Rattle.types_table.specs.partition.Lists.{Has}
use Rattle.types_table.proofs.partition.PartitionLoopLemmas.{marks_more}
use Rattle.types_table.proofs.partition.waits.mark_all.Goals as goal

pub loop-number-preserved : goal.loop-number-preserved
loop-number-preserved c = marks_more _ _ _ _ _ c.args.class.now c.args.numbers.now c.loop-number.number-index
    c.loop-number-test.true c.loop-number.invariant c.in_ok-mark.ensures.keeps c.in_ok-mark.ensures.ready
    (subst (λ d. Has c.mark.new.waiting.items d (get_or c.args.numbers.now c.loop-number.number-index 0)) c.class_at.ensures c.in_ok-mark.ensures.marked)

pub returns-clause-marked : goal.returns-clause-marked
returns-clause-marked c =
    let end : c.loop-number.number-index ≡ length c.args.numbers.now = omega arith in
    subst (λ l. (u : ℕ) → Contains l u → Has c.loop-number.waiting.items (slice_index c.args.class.now u) u)
    (take-whole c.args.numbers.now c.loop-number.number-index end) c.loop-number.invariant.marked
