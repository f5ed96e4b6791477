use Rattle.std.proofs.Common.{◌∙◌, sym, subst, arith}
use Rattle.std.specs.Prelude.{length}
use Rattle.std.proofs.lemmas.Bool.{OnTrue_at, OnTrue_from}
use Rattle.types_spec.specs.types.Table.{table_shapes}
use Rattle.types_spec.specs.types.Typing.{IsHeld}
use Rattle.types_table.specs.type_table.Made.{table_of}
use Rattle.check_heap.proofs.scan.ScanNeedLemmas.{shape_asked}
use Rattle.cert_verify.proofs.certificate.EntryJudgeLemmas.{accepted}
use Rattle.cert_verify.proofs.certificate.RightLemmas.{worded_stands, right_fit}
use Rattle.cert_verify.proofs.certificate.right.are_accepted.Goals as goal

pub is_backed-requires-clause-near : goal.is_backed-requires-clause-near
is_backed-requires-clause-near c =
    worded_stands (table_of c.args.stated.fitting.table.now) c.args.stated.heap.now c.args.stated.pairs.now 0 c.pair_at-near.result c.args.stated.there c.pair_at-near.ensures

pub is_backed-requires-clause-word : goal.is_backed-requires-clause-word
is_backed-requires-clause-word c = (c.args.root, c.requires.value, c.word.ensures)

pub returns : goal.returns
returns c = OnTrue_from c.is_backed.result _ (λ yes'.
    let t = table_of c.args.stated.fitting.table.now in
    let right = OnTrue_at c.if-not-are_right.false c.are_right.ensures in
    let asked = shape_asked c.args.stated.fitting.table.now.nodes c.root-ty.result c.shape.result.now c.shape.ensures (sym c.is_asked.ensures ∙ c.if-not-is_asked.false) in
    let held = OnTrue_at yes' c.is_backed.ensures c.args.root c.requires.value c.word.ensures asked (right_fit t c.args.stated.heap.now c.args.stated.pairs.now right) in
    accepted t c.args.stated.heap.now c.args.root c.args.stated.pairs.now c.args.stated.there (length c.args.stated.pairs.now) (omega arith) right
    (subst (λ u. IsHeld (table_shapes t) c.args.stated.heap.now c.args.stated.pairs.now c.args.root u) c.root-ty.ensures held))
