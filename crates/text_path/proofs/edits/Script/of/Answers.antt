use Rattle.std.proofs.Common.{subst}
use Rattle.text_path.specs.LineOrder.{IsOrder}
use Rattle.text_path.specs.Uses.{AreUses}
use Rattle.text_path.proofs.edits.Script.of.Goals as goal

pub invariant_of-result : goal.invariant_of-result
invariant_of-result c = (
  subst (λ lines. IsOrder lines c.in_ok-order.order.items) c.as_slice.ensures c.in_ok-order.ensures,
  subst (λ lines. AreUses lines c.in_ok-uses.uses.items) c.as_slice-2.ensures c.in_ok-uses.ensures,
)
