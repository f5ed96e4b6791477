use Rattle.std.proofs.Common.{◌≤◌, ◌∙◌, length, refl, ap, arith}
use Rattle.std.specs.Prelude.{slice_get}
use Rattle.std.proofs.lemmas.Bool.{OnTrue_at}
use Rattle.types_table.specs.type_table.Made.{table_of}
use Rattle.marshal_heap.specs.heap.Heap.{field_at}
use Rattle.check_heap.specs.fits.Needs.{needs_in}
use Rattle.check_heap.proofs.scan.ScanFieldLemmas.{word_inside, field_word, field_valid}
use Rattle.check_heap.proofs.scan.ScanNeedLemmas.{need_field, need_node, some_fields}
use Rattle.cert_verify.proofs.certificate.EntryTestLemmas.{held_more, all_held}
use Rattle.cert_verify.proofs.certificate.right.each_backed.Goals as goal

pub fields_at-words-requires : goal.fields_at-words-requires
fields_at-words-requires c = (
  c.args._object,
  c.requires.object,
  c.requires.word,
  some_fields (table_of c.args.stated.fitting.table.now) c.args.stated.heap.now c.args._object c.args._ty c.requires.object
      (omega (arith, ap length c.requires.needs, c.len.ensures, c.if-len-eq0.false)),
)

pub bounds-words-field : goal.bounds-words-field
bounds-words-field c =
    let at_k = ap (λ needs. slice_get needs c.loop-k.k) c.requires.needs ∙ c.get-field.ensures in
    let short = need_field (table_of c.args.stated.fitting.table.now) c.args.stated.heap.now c.args._object c.args._ty c.loop-k.k c.get-field.result.0 c.get-field.result.1 c.requires.object at_k in
    word_inside c.args.stated.heap.now c.args._object c.get-field.result.0 c.fields_at-words.result.now (c.fields_at-words.ensures.words c.args._object c.requires.object c.requires.word) short

pub offset_bounds-words-field : goal.offset_bounds-words-field
offset_bounds-words-field c =
    let at_k = ap (λ needs. slice_get needs c.loop-k.k) c.requires.needs ∙ c.get-field.ensures in
    let short = need_field (table_of c.args.stated.fitting.table.now) c.args.stated.heap.now c.args._object c.args._ty c.loop-k.k c.get-field.result.0 c.get-field.result.1 c.requires.object at_k in
    let inside = word_inside c.args.stated.heap.now c.args._object c.get-field.result.0 c.fields_at-words.result.now (c.fields_at-words.ensures.words c.args._object c.requires.object c.requires.word) short in
    omega (arith, inside, c.fields_at-words.type_inv)

pub is_backed-requires-clause-word : goal.is_backed-requires-clause-word
is_backed-requires-clause-word c =
    let at_k = ap (λ needs. slice_get needs c.loop-k.k) c.requires.needs ∙ c.get-field.ensures in
    let short = need_field (table_of c.args.stated.fitting.table.now) c.args.stated.heap.now c.args._object c.args._ty c.loop-k.k c.get-field.result.0 c.get-field.result.1 c.requires.object at_k in (
      field_at c.args.stated.heap.now c.args._object c.get-field.result.0,
      field_valid c.args.stated.heap.now c.args._object c.get-field.result.0 c.requires.object short c.count-count.ensures.heap.is_graph,
      field_word c.args.stated.heap.now c.args._object c.get-field.result.0 c.requires.object short c.fields_at-words.result.now _ (c.fields_at-words.ensures.words c.args._object c.requires.object c.requires.word) refl,
    )

pub is_backed-requires-clause-ty : goal.is_backed-requires-clause-ty
is_backed-requires-clause-ty c =
    need_node (table_of c.args.stated.fitting.table.now) c.args.stated.heap.now c.holds.ensures.lawful c.args._object c.args._ty c.loop-k.k c.get-field.result.0 c.get-field.result.1 c.requires.ty
    (ap (λ needs. slice_get needs c.loop-k.k) c.requires.needs ∙ c.get-field.ensures)

pub loop-k-preserved : goal.loop-k-preserved
loop-k-preserved c = λ all.
    let at_k = ap (λ needs. slice_get needs c.loop-k.k) c.requires.needs ∙ c.get-field.ensures in
    let short = need_field (table_of c.args.stated.fitting.table.now) c.args.stated.heap.now c.args._object c.args._ty c.loop-k.k c.get-field.result.0 c.get-field.result.1 c.requires.object at_k in
    held_more (table_of c.args.stated.fitting.table.now) c.args.stated.heap.now c.args.stated.pairs.now c.args._object c.args._ty c.loop-k.k c.get-field.result.0 c.get-field.result.1
    (needs_in c.args.needs) c.requires.needs c.requires.object c.get-field.ensures (c.loop-k.invariant all)
    (λ asked. OnTrue_at c.if-not-is_backed.false c.is_backed.ensures (field_at c.args.stated.heap.now c.args._object c.get-field.result.0)
    (field_valid c.args.stated.heap.now c.args._object c.get-field.result.0 c.requires.object short c.count-count.ensures.heap.is_graph)
    (field_word c.args.stated.heap.now c.args._object c.get-field.result.0 c.requires.object short c.fields_at-words.result.now _ (c.fields_at-words.ensures.words c.args._object c.requires.object c.requires.word) refl)
    asked all)

pub returns-then-len-eq0 : goal.returns-then-len-eq0
returns-then-len-eq0 c = λ all.
    let none : length (needs_in c.args.needs) ≤ 0 = omega (arith, c.len.ensures, c.if-len-eq0.true) in
    all_held (table_of c.args.stated.fitting.table.now) c.args.stated.heap.now c.args.stated.pairs.now c.args._object c.args._ty 0 (needs_in c.args.needs) c.requires.needs none
    (λ j i a less at_j asked. absurd (omega (arith, less)))

pub returns : goal.returns
returns c = λ all.
    let many : length (needs_in c.args.needs) ≤ c.loop-k.k = omega (arith, c.len-k-end.ensures, c.loop-k.auto.k-end, c.loop-k-test.false) in
    all_held (table_of c.args.stated.fitting.table.now) c.args.stated.heap.now c.args.stated.pairs.now c.args._object c.args._ty c.loop-k.k (needs_in c.args.needs) c.requires.needs many (c.loop-k.invariant all)
