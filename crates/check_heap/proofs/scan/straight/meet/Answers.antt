use Rattle.std.proofs.Common.{◌-◌, ◌<◌, ◌≡◌, ◌∙◌, suc, length, sym, ap, subst, refl, arith}
use Rattle.std.specs.Prelude.{IsTrue, slice_get, slice_index, slice_set}
use Rattle.std.proofs.lemmas.List.{get_or-set_same}
use Rattle.base_data.specs.model.Graph.{IsValue}
use Rattle.base_data.specs.declared.model.value.Val.{Val}
use Rattle.base_data.specs.declared.model.value.Val.TheVariants as vals
use Rattle.types_spec.specs.types.Table.{is_asked_in}
use Rattle.marshal_heap.specs.heap.Heap.{word_of}
use Rattle.types_table.specs.type_table.Made.{table_of}
use Rattle.check_heap.proofs.fits.FitsRowLemmas.{is_reference}
use Rattle.check_heap.proofs.scan.ScanMarkLemmas.{known, marked_met, marks_more}
use Rattle.check_heap.proofs.scan.ScanPathLemmas.{same_from_key}
use Rattle.check_heap.specs.scan.Scan.{AreMarks, IsMet}
use Rattle.check_heap.proofs.scan.ScanNeedLemmas.{shape_asked}
use Rattle.check_heap.proofs.scan.straight.meet.Goals as goal

pub returns-then-mark-eq0-clause-met : goal.returns-then-mark-eq0-clause-met
returns-then-mark-eq0-clause-met c =
    let new : c.in-Some.new ≡ suc c.args.ty = omega (arith, c.in-Some.ensures) in
    let r = is_reference c.args.heap.now c.args.word c.requires.word c.if-word-ne0.false in
    let inside = subst (λ key. key < length c.args.marks.now) (sym (c.key-key.ensures r.0 r.1 r.2)) (c.requires.marks.keyed r.0 r.1) in
    λ asked. marked_met (table_of c.args.fitting.table.now) c.args.heap.now c.set.new.self c.args.word c.key-key.result c.args.ty c.args.ty
    c.count-count.ensures.heap.is_graph c.requires.word c.if-word-ne0.false c.key-key.ensures
    (ap (λ marks. slice_index marks c.key-key.result) c.in_ok-set.ensures ∙ get_or-set_same c.args.marks.now c.key-key.result c.in-Some.new 0 inside ∙ new)
    refl

pub returns-then-marked-ty-clause-met : goal.returns-then-marked-ty-clause-met
returns-then-marked-ty-clause-met c =
    let mark : slice_index c.args.marks.now c.key-key.result ≡ suc (c.get-mark.result - 1) = omega (arith, c.get-mark.ensures, c.if-mark-eq0.false) in
    known _ (IsTrue (is_asked_in (table_of c.args.fitting.table.now) c.args.ty) → (v : Val) → IsValue (length c.args.heap.now) v → c.args.word ≡ word_of c.args.heap.now v
    → IsMet (table_of c.args.fitting.table.now) c.args.heap.now c.args.marks.now v c.args.ty) (λ asked. marked_met (table_of c.args.fitting.table.now) c.args.heap.now c.args.marks.now c.args.word c.key-key.result c.args.ty (c.get-mark.result - 1)
    c.count-count.ensures.heap.is_graph c.requires.word c.if-word-ne0.false c.key-key.ensures mark (ap (slice_get c.args.fitting.table.now.classes) c.if-marked-ty.true))

pub returns-then-mark-eq0-clause-marks : goal.returns-then-mark-eq0-clause-marks
returns-then-mark-eq0-clause-marks c =
    let graph = c.args.heap.now in
    let new : c.in-Some.new ≡ suc c.args.ty = omega (arith, c.in-Some.ensures) in
    let r = is_reference graph c.args.word c.requires.word c.if-word-ne0.false in
    let key = c.key-key.ensures r.0 r.1 r.2 in
    let inside = subst (λ k. k < length c.args.marks.now) (sym key) (c.requires.marks.keyed r.0 r.1) in
    let asked = shape_asked c.args.fitting.table.now.nodes c.args.ty c.shape.result.now c.shape.ensures (sym c.is_asked.ensures ∙ c.if-not-is_asked.false) in
    subst (AreMarks (table_of c.args.fitting.table.now) graph) (sym (c.in_ok-set.ensures ∙ ap (slice_set c.args.marks.now c.key-key.result) new))
    (marks_more (table_of c.args.fitting.table.now) graph c.args.marks.now c.key-key.result c.args.ty c.requires.marks inside c.requires.node (λ o here same wanted.
    let is = same_from_key graph o r.0 c.count-count.ensures.heap.is_graph here r.1 (same ∙ key) in
    c.requires.paths asked o here (r.2 ∙ ap (λ n. word_of graph (vals.Ref n)) (sym is))))
