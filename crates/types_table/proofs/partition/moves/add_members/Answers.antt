use Rattle.std.proofs.Common.{◌≡◌, length, subst, arith}
use Rattle.base_data.proofs.model.Lists.{take-whole}
use Rattle.types_table.specs.partition.Refinement.{HasMembers}
use Rattle.types_table.proofs.partition.PartitionLoopLemmas.{members_more}
use Rattle.types_table.proofs.partition.moves.add_members.Goals as goal

pub loop-number-preserved : goal.loop-number-preserved
loop-number-preserved c = members_more _ _ _ c.args.class.now c.args.left c.args.inspected.now c.loop-number.number-index
    c.loop-number-test.true c.loop-number.invariant c.in_ok-add_member.ensures.keeps c.in_ok-add_member.ensures.has

pub returns-clause-has : goal.returns-clause-has
returns-clause-has c =
    let end : c.loop-number.number-index ≡ length c.args.inspected.now = omega arith in
    subst (λ l. HasMembers c.args.class.now c.args.left l c.loop-number.members.items)
    (take-whole c.args.inspected.now c.loop-number.number-index end) c.loop-number.invariant.has
