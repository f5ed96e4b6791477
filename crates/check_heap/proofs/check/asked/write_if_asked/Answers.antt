use Rattle.std.proofs.Common.{◌∙◌, sym}
use Rattle.types_table.specs.type_table.Made.{table_of}
use Rattle.check_heap.proofs.scan.ScanNeedLemmas.{shape_asked, shape_wildcard}
use Rattle.check_heap.proofs.check.CheckAskedLemmas.{asked_one, wildcard_one}
use Rattle.check_heap.proofs.check.asked.write_if_asked.Goals as goal

pub returns-then-not-is_asked : goal.returns-then-not-is_asked
returns-then-not-is_asked c =
    wildcard_one (table_of c.args.table.now) c.args.pairs.now.items (c.args.object, c.args.ty)
    (shape_wildcard c.args.table.now.nodes c.args.ty c.shape.result.now c.shape.ensures (sym c.is_asked.ensures ∙ c.if-not-is_asked.true))

pub returns : goal.returns
returns c =
    c.in_ok-push.ensures.items
    ∙ asked_one (table_of c.args.table.now) c.args.pairs.now.items (c.args.object, c.args.ty)
    (shape_asked c.args.table.now.nodes c.args.ty c.shape.result.now c.shape.ensures (sym c.is_asked.ensures ∙ c.if-not-is_asked.false))
