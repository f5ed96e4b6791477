use Rattle.std.proofs.Common.{◌≡◌, length, subst, arith}
use Rattle.base_data.proofs.model.Lists.{take-whole}
use Rattle.types_table.specs.partition.Refinement.{MarksUsers}
use Rattle.types_table.proofs.partition.PartitionLoopLemmas.{user_marks_more}
use Rattle.types_table.proofs.partition.waits.mark_users.Goals as goal

pub loop-number-preserved : goal.loop-number-preserved
loop-number-preserved c = user_marks_more _ _ _ _ _ c.args.class.now c.args.users.now c.args.left c.args.inspected.now
    c.loop-number.number-index c.loop-number-test.true c.loop-number.invariant c.in_ok-mark_users_of.ensures.keeps
    c.in_ok-mark_users_of.ensures.ready c.in_ok-mark_users_of.ensures.marked

pub returns-clause-marked : goal.returns-clause-marked
returns-clause-marked c =
    let end : c.loop-number.number-index ≡ length c.args.inspected.now = omega arith in
    subst (λ l. MarksUsers c.args.class.now c.args.users.now c.args.left l c.loop-number.waiting.items)
    (take-whole c.args.inspected.now c.loop-number.number-index end) c.loop-number.invariant.marked
