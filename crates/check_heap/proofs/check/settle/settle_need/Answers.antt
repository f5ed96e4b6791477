use Rattle.std.proofs.Common.{◌<◌, ◌≡◌, ◌∙◌, length, Some, sym, ap, subst, arith}
use Rattle.std.proofs.lemmas.Option.{same_Some}
use Rattle.std.proofs.lemmas.Bool.{OnTrue_from}
use Rattle.base_data.specs.declared.model.value.Val.TheVariants as vals
use Rattle.types_table.specs.type_table.Made.{table_of}
use Rattle.marshal_heap.specs.heap.Heap.{field_at, word_of}
use Rattle.marshal_heap.proofs.heap.HeapReadLemmas.{word_of-inj}
use Rattle.check_heap.proofs.scan.ScanFieldLemmas.{field_valid}
use Rattle.check_heap.proofs.scan.ScanNeedLemmas.{need_field, need_node}
use Rattle.check_heap.proofs.scan.ScanPathLemmas.{need_path}
use Rattle.check_heap.proofs.scan.ScanPositionLemmas.{read_at}
use Rattle.check_heap.specs.check.Settled.{FindsValue}
use Rattle.check_heap.proofs.check.CheckSettleLemmas.{even_word, finds_value, finds_first, finds_noted}
use Rattle.check_heap.proofs.check.settle.settle_need.Goals as goal

pub fits_type-requires-clause-word : goal.fits_type-requires-clause-word
fits_type-requires-clause-word c =
    let short = need_field (table_of c.args.fitting.table.now) c.args.heap.now c.args._object c.args._ty c.args._position c.args._field c.args.needed c.requires.object c.requires.need in (
      field_at c.args.heap.now c.args._object c.args._field,
      field_valid c.args.heap.now c.args._object c.args._field c.requires.object short c.count-count.ensures.heap.is_graph,
      c.requires.word,
    )

pub fits_type-requires-clause-node : goal.fits_type-requires-clause-node
fits_type-requires-clause-node c =
    let t = table_of c.args.fitting.table.now in
    let graph = c.args.heap.now in
    let node = need_node t graph c.holds.ensures.lawful c.args._object c.args._ty c.args._position c.args._field c.args.needed c.requires.node c.requires.need in
    node

pub returns-then-word-ne0 : goal.returns-then-word-ne0
returns-then-word-ne0 c =
    let t = table_of c.args.fitting.table.now in
    let graph = c.args.heap.now in
    let node = need_node t graph c.holds.ensures.lawful c.args._object c.args._ty c.args._position c.args._field c.args.needed c.requires.node c.requires.need in
    let v = field_at graph c.args._object c.args._field in
    let short = need_field t graph c.args._object c.args._ty c.args._position c.args._field c.args.needed c.requires.object c.requires.need in
    let valid = field_valid graph c.args._object c.args._field c.requires.object short c.count-count.ensures.heap.is_graph in
    record {
      finds = OnTrue_from c.fits_type.result _ (λ fits. finds_value t graph c.args.types.now c.args.seconds.now v c.args.needed c.requires.over
          (λ o is. even_word graph c.args.word o c.if-word-ne0.true (c.requires.word ∙ ap (word_of graph) is))
          ((c.fits_type.ensures v valid c.requires.word).0 fits));
    }

pub class-requires : goal.class-requires
class-requires c =
    let t = table_of c.args.fitting.table.now in
    let graph = c.args.heap.now in
    let node = need_node t graph c.holds.ensures.lawful c.args._object c.args._ty c.args._position c.args._field c.args.needed c.requires.node c.requires.need in
    let many = c.requires.over.scanned.many in
    let inside : c.number-object.result < length c.args.types.now = omega (arith, c.number-object.ensures.in_range, many) in
    let at_first = read_at c.args.types.now c.number-object.result c.get-first.result inside c.get-first.ensures in
    let first = c.requires.over.scanned.within c.number-object.result c.get-first.result at_first in
    let classed = c.holds.ensures.lawful.classed in
    omega (arith, first, classed)

pub class-requires-2 : goal.class-requires-2
class-requires-2 c =
    let t = table_of c.args.fitting.table.now in
    let graph = c.args.heap.now in
    let node = need_node t graph c.holds.ensures.lawful c.args._object c.args._ty c.args._position c.args._field c.args.needed c.requires.node c.requires.need in
    let classed = c.holds.ensures.lawful.classed in
    omega (arith, node, classed)

pub note-requires-clause-ty : goal.note-requires-clause-ty
note-requires-clause-ty c =
    let t = table_of c.args.fitting.table.now in
    let graph = c.args.heap.now in
    let node = need_node t graph c.holds.ensures.lawful c.args._object c.args._ty c.args._position c.args._field c.args.needed c.requires.node c.requires.need in
    let classed = c.holds.ensures.lawful.classed in
    omega (arith, node, classed)

pub returns-then-class : goal.returns-then-class
returns-then-class c =
    let t = table_of c.args.fitting.table.now in
    let graph = c.args.heap.now in
    let node = need_node t graph c.holds.ensures.lawful c.args._object c.args._ty c.args._position c.args._field c.args.needed c.requires.node c.requires.need in
    let many = c.requires.over.scanned.many in
    let inside : c.number-object.result < length c.args.types.now = omega (arith, c.number-object.ensures.in_range, many) in
    let at_first = read_at c.args.types.now c.number-object.result c.get-first.result inside c.get-first.ensures in
    let p = c.number-object.result in
    let v = field_at graph c.args._object c.args._field in
    let short = need_field t graph c.args._object c.args._ty c.args._position c.args._field c.args.needed c.requires.object c.requires.need in
    let valid = field_valid graph c.args._object c.args._field c.requires.object short c.count-count.ensures.heap.is_graph in
    let same : v ≡ vals.Ref p = word_of-inj graph v (vals.Ref p) c.count-count.ensures.heap.is_graph valid c.number-object.ensures.in_range (sym c.requires.word ∙ c.number-object.ensures.named) in
    record {
      finds = subst (λ w. FindsValue t graph c.args.types.now c.args.seconds.now c.args.seconds.now w c.args.needed) (sym same)
          (finds_first t graph c.args.types.now c.args.seconds.now p c.get-first.result c.args.needed c.requires.over at_first
          (c.class.ensures ∙ ap (λ n. Some n) c.if-class.true ∙ sym c.class-2.ensures));
    }

pub returns : goal.returns
returns c =
    let t = table_of c.args.fitting.table.now in
    let graph = c.args.heap.now in
    let node = need_node t graph c.holds.ensures.lawful c.args._object c.args._ty c.args._position c.args._field c.args.needed c.requires.node c.requires.need in
    let many = c.requires.over.scanned.many in
    let inside : c.number-object.result < length c.args.types.now = omega (arith, c.number-object.ensures.in_range, many) in
    let at_first = read_at c.args.types.now c.number-object.result c.get-first.result inside c.get-first.ensures in
    let p = c.number-object.result in
    let v = field_at graph c.args._object c.args._field in
    let short = need_field t graph c.args._object c.args._ty c.args._position c.args._field c.args.needed c.requires.object c.requires.need in
    let valid = field_valid graph c.args._object c.args._field c.requires.object short c.count-count.ensures.heap.is_graph in
    let same : v ≡ vals.Ref p = word_of-inj graph v (vals.Ref p) c.count-count.ensures.heap.is_graph valid c.number-object.ensures.in_range (sym c.requires.word ∙ c.number-object.ensures.named) in
    record {
      finds = subst (λ w. FindsValue t graph c.args.types.now c.args.seconds.now c.note.new.self w c.args.needed) (sym same)
          (finds_noted t graph c.args.types.now c.args.seconds.now c.note.new.self p c.args.needed c.requires.over c.in_ok-note.ensures.seconds c.in_ok-note.ensures.notes
          (record {
            inside = c.number-object.ensures.in_range;
            within = node;
            first = c.get-first.result;
            typed = at_first;
            other = λ equal. c.if-class.false (same_Some c.class.result c.class-2.result (sym c.class.ensures ∙ equal ∙ c.class-2.ensures));
          })
          (need_path t graph (vals.Ref 0) c.args._object c.args._ty c.args._position c.args._field c.args.needed p c.requires.object c.requires.path c.requires.need c.requires.asked same));
    }
