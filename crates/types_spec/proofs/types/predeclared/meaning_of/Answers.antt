use Rattle.std.proofs.Common.{◌∙◌, sym}
use Rattle.types_spec.proofs.types.TypeSumLemmas.{row_passed}
use Rattle.types_spec.proofs.types.predeclared.meaning_of.Goals as goal

pub loop-k-preserved : goal.loop-k-preserved
loop-k-preserved c =
    row_passed c.args.rows.now c.args.name.now c.loop-k.k _ c.loop-k-test.true (sym c.is.ensures ∙ c.if-is.false)
    ∙ c.loop-k.invariant
