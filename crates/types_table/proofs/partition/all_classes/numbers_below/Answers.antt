use Rattle.std.proofs.Common.{arith}
use Rattle.types_table.proofs.partition.PartitionEndLemmas.{below_more}
use Rattle.types_table.proofs.partition.all_classes.numbers_below.Goals as goal

pub loop-number-init : goal.loop-number-init
loop-number-init c i below = absurd (omega arith)

pub loop-number-preserved : goal.loop-number-preserved
loop-number-preserved c = below_more _ _ _ c.loop-number.invariant c.in_ok-push.ensures.items

pub returns : goal.returns
returns c i below = c.loop-number.invariant i (omega arith)
