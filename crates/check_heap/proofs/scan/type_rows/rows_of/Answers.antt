use Rattle.std.proofs.Common.{◌+◌, ◌∙◌, [], ◌∷◌, length, sym, ap, subst}
use Rattle.std.proofs.lemmas.List.{length-append}
use Rattle.check_heap.specs.scan.FittingRows.{AreRows}
use Rattle.check_heap.proofs.scan.ScanRowLemmas.{rows_more}
use Rattle.check_heap.proofs.scan.type_rows.rows_of.Goals as goal

pub loop-i-preserved : goal.loop-i-preserved
loop-i-preserved c = (
  ap length c.in_ok-push.ensures.items ∙ length-append c.loop-i.rows.items (c.row_of.result ∷ []) ∙ ap (λ n. n + 1) c.loop-i.invariant.0,
  subst (AreRows c.args.table.now.nodes) (sym c.in_ok-push.ensures.items)
      (rows_more c.args.table.now.nodes c.loop-i.rows.items c.loop-i.i c.shape.result.now c.row_of.result c.loop-i.invariant.0 c.loop-i.invariant.1 c.shape.ensures c.row_of.ensures),
)
