use Rattle.std.proofs.Common.{◌≡◌, ◌∙◌, sym, ap, arith}
use Rattle.cmd_gen.specs.generator.Generated.{MadeItems, items_made, next_made, listed}
use Rattle.cmd_gen.proofs.generator.GeneratorItemLemmas.{items_made_more}
use Rattle.cmd_gen.proofs.generator.generated_value.generate.Goals as goal

pub loop-item-preserved : goal.loop-item-preserved
loop-item-preserved c = (
  c.in_ok-add.ensures.made ∙ ap next_made c.loop-item.invariant.0 ∙ sym (items_made_more c.args.number c.loop-item._item),
  c.in_ok-add.ensures.sound,
)

pub returns-clause-made : goal.returns-clause-made
returns-clause-made c =
    let all : c.loop-item._item ≡ c.args.count = omega arith in
    c.in_ok-root.ensures.listed ∙ ap (listed c.loop-item.items.heap) c.deref.ensures.value
    ∙ ap (λ (made : MadeItems). listed made.all made.values) (c.loop-item.invariant.0 ∙ ap (items_made c.args.number) all)
