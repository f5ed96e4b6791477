use Rattle.std.proofs.Common.{◌≤◌, ◌∙◌, length, refl, sym, ap, arith}
use Rattle.std.specs.Prelude.{slice_get}
use Rattle.std.proofs.lemmas.Bool.{false≢true}
use Rattle.types_table.specs.type_table.Made.{table_of}
use Rattle.marshal_heap.specs.heap.Heap.{field_at}
use Rattle.check_heap.specs.fits.Needs.{needs_in}
use Rattle.check_heap.proofs.scan.ScanFieldLemmas.{word_inside, field_word, field_valid}
use Rattle.check_heap.proofs.scan.ScanNeedLemmas.{need_field, need_node, some_fields, shape_asked, shape_wildcard}
use Rattle.cert_verify.proofs.certificate.EntryTestLemmas.{held_more, all_held, missing_is}
use Rattle.cert_verify.proofs.certificate.test.first_missing.Goals as goal

pub fields_at-words-requires : goal.fields_at-words-requires
fields_at-words-requires c = (
  c.args._object,
  c.requires.object,
  c.requires.word,
  some_fields (table_of c.args.stated.fitting.table.now) c.args.stated.heap.now c.args._object c.args._ty c.requires.object
      (omega (arith, ap length c.requires.needs, c.len.ensures, c.if-len-eq0.false)),
)

pub bounds-words-field : goal.bounds-words-field
bounds-words-field c =
    let at_k = ap (λ needs. slice_get needs c.loop-k.k) c.requires.needs ∙ c.get-field.ensures in
    let short = need_field (table_of c.args.stated.fitting.table.now) c.args.stated.heap.now c.args._object c.args._ty c.loop-k.k c.get-field.result.0 c.get-field.result.1 c.requires.object at_k in
    word_inside c.args.stated.heap.now c.args._object c.get-field.result.0 c.fields_at-words.result.now (c.fields_at-words.ensures.words c.args._object c.requires.object c.requires.word) short

pub offset_bounds-words-field : goal.offset_bounds-words-field
offset_bounds-words-field c =
    let at_k = ap (λ needs. slice_get needs c.loop-k.k) c.requires.needs ∙ c.get-field.ensures in
    let short = need_field (table_of c.args.stated.fitting.table.now) c.args.stated.heap.now c.args._object c.args._ty c.loop-k.k c.get-field.result.0 c.get-field.result.1 c.requires.object at_k in
    let inside = word_inside c.args.stated.heap.now c.args._object c.get-field.result.0 c.fields_at-words.result.now (c.fields_at-words.ensures.words c.args._object c.requires.object c.requires.word) short in
    omega (arith, inside, c.fields_at-words.type_inv)

pub is_held-requires-clause-word : goal.is_held-requires-clause-word
is_held-requires-clause-word c =
    let at_k = ap (λ needs. slice_get needs c.loop-k.k) c.requires.needs ∙ c.get-field.ensures in
    let short = need_field (table_of c.args.stated.fitting.table.now) c.args.stated.heap.now c.args._object c.args._ty c.loop-k.k c.get-field.result.0 c.get-field.result.1 c.requires.object at_k in (
      field_at c.args.stated.heap.now c.args._object c.get-field.result.0,
      field_valid c.args.stated.heap.now c.args._object c.get-field.result.0 c.requires.object short c.count-count.ensures.heap.is_graph,
      field_word c.args.stated.heap.now c.args._object c.get-field.result.0 c.requires.object short c.fields_at-words.result.now _ (c.fields_at-words.ensures.words c.args._object c.requires.object c.requires.word) refl,
    )

pub is_held-requires-clause-ty : goal.is_held-requires-clause-ty
is_held-requires-clause-ty c =
    need_node (table_of c.args.stated.fitting.table.now) c.args.stated.heap.now c.holds.ensures.lawful c.args._object c.args._ty c.loop-k.k c.get-field.result.0 c.get-field.result.1 c.requires.ty
    (ap (λ needs. slice_get needs c.loop-k.k) c.requires.needs ∙ c.get-field.ensures)

pub returns-then-not-is_held : goal.returns-then-not-is_held
returns-then-not-is_held c =
    let at_k = ap (λ needs. slice_get needs c.loop-k.k) c.requires.needs ∙ c.get-field.ensures in
    let short = need_field (table_of c.args.stated.fitting.table.now) c.args.stated.heap.now c.args._object c.args._ty c.loop-k.k c.get-field.result.0 c.get-field.result.1 c.requires.object at_k in
    let reports = c.is_held.ensures (field_at c.args.stated.heap.now c.args._object c.get-field.result.0)
    (field_valid c.args.stated.heap.now c.args._object c.get-field.result.0 c.requires.object short c.count-count.ensures.heap.is_graph)
    (field_word c.args.stated.heap.now c.args._object c.get-field.result.0 c.requires.object short c.fields_at-words.result.now _ (c.fields_at-words.ensures.words c.args._object c.requires.object c.requires.word) refl) in
    missing_is (table_of c.args.stated.fitting.table.now) c.args.stated.heap.now c.args.stated.pairs.now c.args._object c.args._ty c.loop-k.k c.get-field.result.0 c.get-field.result.1
    (needs_in c.args.needs) c.requires.needs c.requires.object c.get-field.ensures c.loop-k.invariant
    (shape_asked c.args.stated.fitting.table.now.nodes c.get-field.result.1 c.shape.result.now c.shape.ensures (sym c.is_asked.ensures ∙ c.if-not-is_asked.false))
    (λ held. false≢true (sym c.if-not-is_held.true ∙ reports.1 held))

pub loop-k-preserved : goal.loop-k-preserved
loop-k-preserved c =
    let at_k = ap (λ needs. slice_get needs c.loop-k.k) c.requires.needs ∙ c.get-field.ensures in
    let short = need_field (table_of c.args.stated.fitting.table.now) c.args.stated.heap.now c.args._object c.args._ty c.loop-k.k c.get-field.result.0 c.get-field.result.1 c.requires.object at_k in
    let reports = c.is_held.ensures (field_at c.args.stated.heap.now c.args._object c.get-field.result.0)
    (field_valid c.args.stated.heap.now c.args._object c.get-field.result.0 c.requires.object short c.count-count.ensures.heap.is_graph)
    (field_word c.args.stated.heap.now c.args._object c.get-field.result.0 c.requires.object short c.fields_at-words.result.now _ (c.fields_at-words.ensures.words c.args._object c.requires.object c.requires.word) refl) in
    held_more (table_of c.args.stated.fitting.table.now) c.args.stated.heap.now c.args.stated.pairs.now c.args._object c.args._ty c.loop-k.k c.get-field.result.0 c.get-field.result.1
    (needs_in c.args.needs) c.requires.needs c.requires.object c.get-field.ensures c.loop-k.invariant
    (λ asked. reports.0 c.if-not-is_held.false)

pub returns-then-len-eq0 : goal.returns-then-len-eq0
returns-then-len-eq0 c =
    let none : length (needs_in c.args.needs) ≤ 0 = omega (arith, c.len.ensures, c.if-len-eq0.true) in
    all_held (table_of c.args.stated.fitting.table.now) c.args.stated.heap.now c.args.stated.pairs.now c.args._object c.args._ty 0 (needs_in c.args.needs) c.requires.needs none
    (λ j i a less at_j asked. absurd (omega (arith, less)))

pub returns : goal.returns
returns c =
    let many : length (needs_in c.args.needs) ≤ c.loop-k.k = omega (arith, c.len-k-end.ensures, c.loop-k.auto.k-end, c.loop-k-test.false) in
    all_held (table_of c.args.stated.fitting.table.now) c.args.stated.heap.now c.args.stated.pairs.now c.args._object c.args._ty c.loop-k.k (needs_in c.args.needs) c.requires.needs many c.loop-k.invariant

-- ---- a field of the wildcard type

pub shape-requires : goal.shape-requires
shape-requires c =
    need_node (table_of c.args.stated.fitting.table.now) c.args.stated.heap.now c.holds.ensures.lawful c.args._object c.args._ty c.loop-k.k c.get-field.result.0 c.get-field.result.1 c.requires.ty
    (ap (λ needs. slice_get needs c.loop-k.k) c.requires.needs ∙ c.get-field.ensures)

pub loop-k-preserved-then-not-is_asked : goal.loop-k-preserved-then-not-is_asked
loop-k-preserved-then-not-is_asked c =
    let wildcard = shape_wildcard c.args.stated.fitting.table.now.nodes c.get-field.result.1 c.shape.result.now c.shape.ensures (sym c.is_asked.ensures ∙ c.if-not-is_asked.true) in
    held_more (table_of c.args.stated.fitting.table.now) c.args.stated.heap.now c.args.stated.pairs.now c.args._object c.args._ty c.loop-k.k c.get-field.result.0 c.get-field.result.1
    (needs_in c.args.needs) c.requires.needs c.requires.object c.get-field.ensures c.loop-k.invariant
    (λ asked. absurd (false≢true (sym wildcard ∙ asked)))
