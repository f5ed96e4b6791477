use Rattle.std.proofs.Common.{◌∙◌, ◌+◌, ◌∷◌, [], ap, length, length-append}
use Rattle.types_table.proofs.partition.PartitionEndLemmas.{zero_more, none_zero}
use Rattle.types_table.proofs.partition.all_classes.zeros.Goals as goal

pub loop-number-init : goal.loop-number-init
loop-number-init c = (ap length c.new-found.ensures.items, none_zero _ c.new-found.ensures.items)

pub loop-number-preserved : goal.loop-number-preserved
loop-number-preserved c = (
  ap length c.in_ok-push.ensures.items ∙ length-append c.loop-number.found.items (0 ∷ [])
      ∙ ap (λ n. n + 1) c.loop-number.invariant.0,
  zero_more _ _ c.loop-number.invariant.1 c.in_ok-push.ensures.items,
)
