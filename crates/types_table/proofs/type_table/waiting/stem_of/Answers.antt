use Rattle.std.proofs.Common.{arith, ◌∙◌}
use Rattle.types_spec.specs.types.TypeNodes.{type_at}
use Rattle.types_table.proofs.type_table.TypeTableTextLemmas.{stem-whole}
use Rattle.types_table.proofs.type_table.waiting.stem_of.Goals as goal

pub loop-whole-preserved : goal.loop-whole-preserved
loop-whole-preserved c = (
  omega (arith, c.in-Some.ensures.below, c.loop-whole.invariant.0),
  stem-whole (type_at c.args.types.now c.loop-whole.at) (type_at c.args.types.now c.in-Some.whole) c.in-Some.ensures.is
      ∙ c.loop-whole.invariant.1,
)
