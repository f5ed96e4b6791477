use Rattle.std.proofs.Common.{◌≡◌, ◌<◌, ◌∙◌, suc, Some, inl, refl, sym, ap, subst}
use Rattle.std.specs.Bool.{OnTrue}
use Rattle.std.proofs.lemmas.Bool.{false≢true}
use Rattle.types_table.specs.type_table.Made.{table_of}
use Rattle.marshal_heap.specs.heap.Heap.{field_at}
use Rattle.marshal_heap.proofs.heap.HeapReadLemmas.{word_of-inj}
use Rattle.base_data.specs.declared.model.value.Val.TheVariants as vals
use Rattle.types_spec.specs.types.Table.{table_shapes}
use Rattle.check_heap.specs.scan.Scanned.{IsSeen}
use Rattle.check_heap.specs.check.Visits.{listed}
use Rattle.check_heap.proofs.scan.ScanPositionLemmas.{read_at}
use Rattle.check_heap.specs.scan.Classed.{Has}
use Rattle.check_heap.proofs.check.CheckNotedLemmas.{met_first}
use Rattle.check_heap.proofs.scan.ScanFieldLemmas.{field_there, field_valid}
use Rattle.check_heap.proofs.check.RowsLemmas.{first_fits, tests_true, tests_false, enters_named}
use Rattle.check_heap.proofs.check.search.test_need.Goals as goal

pub returns-then-is_at-clause-tests : goal.returns-then-is_at-clause-tests
returns-then-is_at-clause-tests c =
    let t = table_of c.args.fitting.table.now in
    let graph = c.args.heap.now in
    let all = listed c.args.visits.now in
    let need = c.args.need in
    let o = c.number_near-object.result in
    let v = field_at graph need.object need.step in
    let valid = field_valid graph need.object need.step c.requires.object c.requires.field c.count-count.ensures.heap.is_graph in
    let same : v ≡ vals.Ref o = word_of-inj graph v (vals.Ref o) c.count-count.ensures.heap.is_graph valid c.number_near-object.ensures.in_range
    (sym c.requires.word ∙ c.number_near-object.ensures.named) in
    let at_o = read_at c.args.visits.now.first o c.first_at-first.result (subst (λ n. o < n) (sym c.requires.linked.many) c.number_near-object.ensures.in_range) c.first_at-first.ensures in
    let first_is : c.first_at-first.result ≡ suc need.ty = subst (λ test. OnTrue test (c.first_at-first.result ≡ suc need.ty)) c.if-is_at.true c.is_at.ensures in
    let met = at_o ∙ ap (λ m. Some m) first_is in
    tests_true t graph all all need v valid (field_there graph need.object need.step c.requires.object c.requires.field)
    (first_fits t graph c.args.visits.now need.ty v o same c.requires.linked c.requires.fit met)
    (enters_named t all all need v o same
    (inl (met_first t all c.args.visits.now.first (Has c.args.visits.now.later) c.requires.linked.noted o need.ty met, refl)))

pub returns-then-not-object_fits-clause-tests : goal.returns-then-not-object_fits-clause-tests
returns-then-not-object_fits-clause-tests c =
    let graph = c.args.heap.now in
    let need = c.args.need in
    let v = field_at graph need.object need.step in
    let valid = field_valid graph need.object need.step c.requires.object c.requires.field c.count-count.ensures.heap.is_graph in
    let same : v ≡ vals.Ref c.number_near-object.result = word_of-inj graph v (vals.Ref c.number_near-object.result) c.count-count.ensures.heap.is_graph valid c.number_near-object.ensures.in_range
    (sym c.requires.word ∙ c.number_near-object.ensures.named) in
    tests_false (table_of c.args.fitting.table.now) graph (listed c.args.visits.now) need v valid
    (field_there graph need.object need.step c.requires.object c.requires.field)
    (λ fits. false≢true (sym c.if-not-object_fits.true ∙ c.object_fits.ensures.1 (subst (λ u. (table_shapes (table_of c.args.fitting.table.now)).fits graph u need.ty) same fits)))

pub returns-clause-tests : goal.returns-clause-tests
returns-clause-tests c =
    let t = table_of c.args.fitting.table.now in
    let graph = c.args.heap.now in
    let all = listed c.args.visits.now in
    let need = c.args.need in
    let o = c.number_near-object.result in
    let v = field_at graph need.object need.step in
    let valid = field_valid graph need.object need.step c.requires.object c.requires.field c.count-count.ensures.heap.is_graph in
    let same : v ≡ vals.Ref o = word_of-inj graph v (vals.Ref o) c.count-count.ensures.heap.is_graph valid c.number_near-object.ensures.in_range
    (sym c.requires.word ∙ c.number_near-object.ensures.named) in
    tests_true t graph all (listed c.enter.new.self) need v valid
    (field_there graph need.object need.step c.requires.object c.requires.field)
    (subst (λ u. (table_shapes t).fits graph u need.ty) (sym same) (c.object_fits.ensures.0 c.if-not-object_fits.false))
    (enters_named t all (listed c.enter.new.self) need v o same c.in_ok-enter.ensures.enters)

pub object_fits-requires-clause-seen : goal.object_fits-requires-clause-seen
object_fits-requires-clause-seen c =
    let t = table_of c.args.fitting.table.now in
    let graph = c.args.heap.now in
    let need = c.args.need in
    let o = c.number_near-object.result in
    let v = field_at graph need.object need.step in
    let valid = field_valid graph need.object need.step c.requires.object c.requires.field c.count-count.ensures.heap.is_graph in
    let same : v ≡ vals.Ref o = word_of-inj graph v (vals.Ref o) c.count-count.ensures.heap.is_graph valid c.number_near-object.ensures.in_range
    (sym c.requires.word ∙ c.number_near-object.ensures.named) in
    subst (λ u. OnTrue c.args.seen (IsSeen t graph c.args.taken.now need.object need.step u need.ty)) same c.requires.seen
