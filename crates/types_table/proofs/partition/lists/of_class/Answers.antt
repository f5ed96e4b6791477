use Rattle.std.proofs.Common.{ℕ, ◌≡◌, ◌∙◌, length, ap, subst, sym, arith, true≢false}
use Rattle.std.specs.Global.{Vec}
use Rattle.base_data.proofs.model.Lists.{take-whole}
use Rattle.types_table.specs.partition.Lists.{IsOfClass}
use Rattle.types_table.proofs.partition.PartitionListLemmas.{of_class_none, of_class_more, of_class_same, of_class_set}
use Rattle.types_table.proofs.partition.lists.of_class.Goals as goal
use Rattle.types_table.proofs.partition.lists.of_class.Goals.{then-has_class+in_ok-push, else-has_class}

pub loop-number-init : goal.loop-number-init
loop-number-init c = of_class_none _ _ _ c.new-found.ensures.items

pub loop-number-preserved : goal.loop-number-preserved
loop-number-preserved c = elim c.if-has_class.branch [
  | then-has_class+in_ok-push w ↦ of_class_more c.args.class.now c.args.wanted c.args.numbers.now c.loop-number.number-index
      c.loop-number-test.true c.loop-number.found.items _ c.loop-number.invariant
      (ap (λ (v : Vec ℕ). v.items) w.found-is ∙ w.in_ok-push.ensures.items)
      (c.has_class.ensures.0 w.if-has_class.true)
  | else-has_class w ↦ of_class_same c.args.class.now c.args.wanted c.args.numbers.now c.loop-number.number-index
      c.loop-number-test.true c.loop-number.found.items _ c.loop-number.invariant
      (ap (λ (v : Vec ℕ). v.items) w.found-is)
      (λ both. true≢false (sym (c.has_class.ensures.1 both) ∙ w.if-has_class.false))
]

pub returns : goal.returns
returns c =
    let end : c.loop-number.number-index ≡ length c.args.numbers.now = omega arith in
    of_class_set _ _ _ _ _ (subst (λ l. IsOfClass l c.args.class.now c.args.wanted c.loop-number.found.items)
    (take-whole c.args.numbers.now c.loop-number.number-index end) c.loop-number.invariant) c.as_set.ensures
