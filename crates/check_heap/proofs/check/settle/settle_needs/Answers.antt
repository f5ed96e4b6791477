use Rattle.std.proofs.Common.{◌∙◌, refl, sym, ap, subst, arith}
use Rattle.std.specs.Bool.{OnTrue}
use Rattle.std.specs.Prelude.{length, slice_get}
use Rattle.types_table.specs.type_table.Made.{table_of}
use Rattle.marshal_heap.specs.heap.Heap.{field_at}
use Rattle.check_heap.proofs.scan.ScanFieldLemmas.{word_inside, field_word}
use Rattle.check_heap.proofs.scan.ScanNeedLemmas.{need_field, need_node, some_fields, shape_asked, shape_wildcard}
use Rattle.check_heap.specs.check.Settled.{FindsValue}
use Rattle.check_heap.proofs.check.CheckSettleLemmas.{finds_more, finds_wildcard}
use Rattle.check_heap.proofs.check.settle.settle_needs.Goals as goal

pub fields-words-requires : goal.fields-words-requires
fields-words-requires c =
    let many = ap length c.requires.needs in
    some_fields (table_of c.args.fitting.table.now) c.args.heap.now c.args.object c.args.ty c.requires.object
    (omega (arith, many, c.len.ensures, c.if-len-eq0.false))

pub offset_bounds-words-field : goal.offset_bounds-words-field
offset_bounds-words-field c =
    let graph = c.args.heap.now in
    let i = c.get-field.result.0 in
    let at_k = ap (λ needs. slice_get needs c.loop-k.k) c.requires.needs ∙ c.get-field.ensures in
    let short = need_field (table_of c.args.fitting.table.now) graph c.args.object c.args.ty c.loop-k.k i c.get-field.result.1 c.requires.object at_k in
    let inside = word_inside graph c.args.object i c.fields-words.result.now c.fields-words.ensures.words short in
    omega (arith, inside, c.type_inv.words)

pub bounds-words-field : goal.bounds-words-field
bounds-words-field c =
    let graph = c.args.heap.now in
    let i = c.get-field.result.0 in
    let at_k = ap (λ needs. slice_get needs c.loop-k.k) c.requires.needs ∙ c.get-field.ensures in
    let short = need_field (table_of c.args.fitting.table.now) graph c.args.object c.args.ty c.loop-k.k i c.get-field.result.1 c.requires.object at_k in
    word_inside graph c.args.object i c.fields-words.result.now c.fields-words.ensures.words short

pub settle_need-requires-clause-word : goal.settle_need-requires-clause-word
settle_need-requires-clause-word c =
    let graph = c.args.heap.now in
    let i = c.get-field.result.0 in
    let at_k = ap (λ needs. slice_get needs c.loop-k.k) c.requires.needs ∙ c.get-field.ensures in
    let short = need_field (table_of c.args.fitting.table.now) graph c.args.object c.args.ty c.loop-k.k i c.get-field.result.1 c.requires.object at_k in
    field_word graph c.args.object i c.requires.object short c.fields-words.result.now _ c.fields-words.ensures.words refl

pub loop-k-preserved : goal.loop-k-preserved
loop-k-preserved c =
    let t = table_of c.args.fitting.table.now in
    let graph = c.args.heap.now in
    let i = c.get-field.result.0 in
    let a = c.get-field.result.1 in
    let at_k = ap (λ needs. slice_get needs c.loop-k.k) c.requires.needs ∙ c.get-field.ensures in
    let finds = subst (λ test. OnTrue test (FindsValue t graph c.args.types.now c.loop-k.seconds c.settle_need.new.seconds (field_at graph c.args.object i) a)) c.if-not-branch.false c.in_ok-settle_need.ensures.finds in
    finds_more t graph c.args.types.now c.args.seconds.now c.loop-k.seconds c.settle_need.new.seconds c.args.object c.args.ty c.loop-k.k i a c.loop-k.invariant finds.over finds.extends (λ asked. finds.found) at_k

-- ---- a field of an unconstrained type

pub shape-requires : goal.shape-requires
shape-requires c =
    let at_k = ap (λ needs. slice_get needs c.loop-k.k) c.requires.needs ∙ c.get-field.ensures in
    need_node (table_of c.args.fitting.table.now) c.args.heap.now c.holds.ensures.lawful c.args.object c.args.ty c.loop-k.k c.get-field.result.0 c.get-field.result.1 c.requires.node at_k

pub settle_need-requires-clause-asked : goal.settle_need-requires-clause-asked
settle_need-requires-clause-asked c =
    shape_asked c.args.fitting.table.now.nodes c.get-field.result.1 c.shape.result.now c.shape.ensures (sym c.is_asked.ensures ∙ c.if-not-is_asked.false)

pub loop-k-preserved-then-not-is_asked : goal.loop-k-preserved-then-not-is_asked
loop-k-preserved-then-not-is_asked c =
    let at_k = ap (λ needs. slice_get needs c.loop-k.k) c.requires.needs ∙ c.get-field.ensures in
    finds_wildcard (table_of c.args.fitting.table.now) c.args.heap.now c.args.types.now c.args.seconds.now c.loop-k.seconds c.args.object c.args.ty c.loop-k.k c.get-field.result.0 c.get-field.result.1 c.loop-k.invariant
    (shape_wildcard c.args.fitting.table.now.nodes c.get-field.result.1 c.shape.result.now c.shape.ensures (sym c.is_asked.ensures ∙ c.if-not-is_asked.true)) at_k
