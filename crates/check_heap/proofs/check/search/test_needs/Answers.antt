use Rattle.std.proofs.Common.{◌+◌, ◌<◌, ◌≡◌, ◌∙◌, length, refl, sym, ap, subst, arith}
use Rattle.std.specs.Prelude.{slice_get}
use Rattle.types_table.specs.type_table.Made.{table_of}
use Rattle.check_heap.specs.declared.check.search.RequiredField.{RequiredField}
use Rattle.check_heap.specs.check.Search.{TestsNeed, visit_fields}
use Rattle.base_data.proofs.model.Options.{slice_get-Contains}
use Rattle.check_heap.specs.scan.TakenObjects.{size_of}
use Rattle.check_heap.proofs.check.SeenLemmas.{reach_more, few_rest, need_few}
use Rattle.check_heap.proofs.check.CheckVisitLemmas.{IsNeedOf, visit_within, visit_fits, types_within, testing_first, testing_more, testing_wildcard, testing_until, testing_all}
use Rattle.types_spec.proofs.types.TypeAskedLemmas.{typed_needed}
use Rattle.base_data.specs.declared.model.value.Val.TheVariants as vals
use Rattle.check_heap.proofs.scan.ScanNeedLemmas.{increase, need_field, need_node, some_fields, shape_asked, shape_wildcard}
use Rattle.check_heap.specs.check.Visits.{listed}
use Rattle.check_heap.proofs.scan.ScanFieldLemmas.{word_inside, field_word}
use Rattle.check_heap.proofs.check.search.test_needs.Goals as goal

pub take_need-requires-clause-object : goal.take_need-requires-clause-object
take_need-requires-clause-object c =
    let all = (listed c.args.visits.now) in
    let v = c.args.visit in
    let at_n = c.requires.visit in
    (visit_within (table_of c.args.fitting.table.now) c.args.heap.now all c.args.n 0 c.args.n v c.requires.explored at_n).0

pub take_need-requires-clause-field : goal.take_need-requires-clause-field
take_need-requires-clause-field c =
    need_field (table_of c.args.fitting.table.now) c.args.heap.now c.args.visit.object c.args.visit.ty c.loop-k.k c.get-step.result.0 c.get-step.result.1 (visit_within (table_of c.args.fitting.table.now) c.args.heap.now (listed c.args.visits.now) c.args.n 0 c.args.n c.args.visit c.requires.explored c.requires.visit).0 (ap (λ needs. slice_get needs c.loop-k.k)
    c.requires.needs
    ∙ c.get-step.ensures)

pub take_need-requires-clause-node : goal.take_need-requires-clause-node
take_need-requires-clause-node c =
    need_node (table_of c.args.fitting.table.now) c.args.heap.now c.holds.ensures.lawful c.args.visit.object c.args.visit.ty c.loop-k.k c.get-step.result.0 c.get-step.result.1 (visit_within (table_of c.args.fitting.table.now) c.args.heap.now (listed c.args.visits.now) c.args.n 0 c.args.n c.args.visit c.requires.explored c.requires.visit).1 (ap (λ needs. slice_get needs c.loop-k.k)
    c.requires.needs
    ∙ c.get-step.ensures)

pub take_need-requires-clause-class : goal.take_need-requires-clause-class
take_need-requires-clause-class c =
    let node = need_node (table_of c.args.fitting.table.now) c.args.heap.now c.holds.ensures.lawful c.args.visit.object c.args.visit.ty c.loop-k.k c.get-step.result.0 c.get-step.result.1 (visit_within (table_of c.args.fitting.table.now) c.args.heap.now (listed c.args.visits.now) c.args.n 0 c.args.n c.args.visit c.requires.explored c.requires.visit).1 (ap (λ needs. slice_get needs c.loop-k.k)
    c.requires.needs
    ∙ c.get-step.ensures) in
    subst (λ m. c.get-step.result.1 < m) (sym c.holds.ensures.lawful.classed) node

pub take_need-requires-clause-types : goal.take_need-requires-clause-types
take_need-requires-clause-types c =
    types_within (table_of c.args.fitting.table.now) c.args.heap.now (listed c.loop-k.visits) c.args.n c.loop-k.k c.holds.ensures.lawful c.loop-k.invariant.testing.explored

pub take_need-requires-clause-fit : goal.take_need-requires-clause-fit
take_need-requires-clause-fit c = λ k v at.
    visit_fits (table_of c.args.fitting.table.now) c.args.heap.now (listed c.loop-k.visits) c.args.n c.loop-k.k k v c.loop-k.invariant.testing.explored at

pub returns-then-not-branch-clause-tests : goal.returns-then-not-branch-clause-tests
returns-then-not-branch-clause-tests c =
    let t = table_of c.args.fitting.table.now in
    let all = (listed c.args.visits.now) in
    let v = c.args.visit in
    let at_n = c.requires.visit in
    let are = c.requires.needs in
    let asked = shape_asked c.args.fitting.table.now.nodes c.get-step.result.1 c.shape.result.now c.shape.ensures (sym c.is_asked.ensures ∙ c.if-not-is_asked.false) in
    let need : RequiredField = record { parent = c.args.n; object = c.args.visit.object; step = c.get-step.result.0; ty = c.get-step.result.1 } in
    let is : IsNeedOf (table_of c.args.fitting.table.now) c.args.heap.now (listed c.args.visits.now) c.args.n c.loop-k.k need =
    record { visit = v; at = at_n; parent = refl; object = refl; needed = ap (λ needs. slice_get needs c.loop-k.k) are ∙ c.get-step.ensures; asked = asked } in
    testing_until (table_of c.args.fitting.table.now) c.args.heap.now all (listed c.loop-k.visits) (listed c.take_need.new.visits) c.args.n c.loop-k.k need c.holds.ensures.lawful c.loop-k.invariant.testing is
    (subst (TestsNeed (table_of c.args.fitting.table.now) c.args.heap.now (listed c.loop-k.visits) (listed c.take_need.new.visits) need) c.if-not-branch.true c.in_ok-take_need.ensures.tests)

pub loop-k-preserved : goal.loop-k-preserved
loop-k-preserved c =
    let all = (listed c.args.visits.now) in
    let v = c.args.visit in
    let at_n = c.requires.visit in
    let within = visit_within (table_of c.args.fitting.table.now) c.args.heap.now all c.args.n 0 c.args.n v c.requires.explored at_n in
    let are = c.requires.needs in
    let needed = ap (λ needs. slice_get needs c.loop-k.k) are ∙ c.get-step.ensures in
    let asked = shape_asked c.args.fitting.table.now.nodes c.get-step.result.1 c.shape.result.now c.shape.ensures (sym c.is_asked.ensures ∙ c.if-not-is_asked.false) in
    let need : RequiredField = record { parent = c.args.n; object = c.args.visit.object; step = c.get-step.result.0; ty = c.get-step.result.1 } in
    let is : IsNeedOf (table_of c.args.fitting.table.now) c.args.heap.now (listed c.args.visits.now) c.args.n c.loop-k.k need =
    record { visit = v; at = at_n; parent = refl; object = refl; needed = needed; asked = asked } in
    let node = need_node (table_of c.args.fitting.table.now) c.args.heap.now c.holds.ensures.lawful v.object v.ty c.loop-k.k c.get-step.result.0 c.get-step.result.1 within.1 needed in
    let short = need_field (table_of c.args.fitting.table.now) c.args.heap.now v.object v.ty c.loop-k.k c.get-step.result.0 c.get-step.result.1 within.0 needed in
    let inside = word_inside c.args.heap.now v.object c.get-step.result.0 c.fields-words.result.now c.fields-words.ensures.words short in
    record {
      linked = c.in_ok-take_need.ensures.linked;
      testing = testing_more (table_of c.args.fitting.table.now) c.args.heap.now all (listed c.loop-k.visits) (listed c.take_need.new.visits) c.args.n c.loop-k.k need c.loop-k.invariant.testing is node
          (subst (TestsNeed (table_of c.args.fitting.table.now) c.args.heap.now (listed c.loop-k.visits) (listed c.take_need.new.visits) need) c.if-not-branch.false c.in_ok-take_need.ensures.tests);
      reached = c.get-step.result.0 + 1;
      inside = omega (arith, short);
      small = omega (arith, inside, c.fields-words.type_inv);
      later = λ j l b less at_j. let more = increase (table_of c.args.fitting.table.now) c.args.heap.now v.object v.ty c.loop-k.k j c.get-step.result.0 l c.get-step.result.1 b (omega (arith, less)) needed at_j in omega (arith, more);
      few = reach_more c.loop-k.invariant.reached c.get-step.result.0 c.args.seen c.args.steps.now c.loop-k.steps c.take_need.new.steps (c.loop-k.invariant.later c.loop-k.k c.get-step.result.0 c.get-step.result.1 (omega arith) needed) c.loop-k.invariant.few
          c.take_need.ensures.steps c.take_need.ensures.counted;
    }

pub returns-clause-tests : goal.returns-clause-tests
returns-clause-tests c =
    let all = (listed c.args.visits.now) in
    let v = c.args.visit in
    let at_n = c.requires.visit in
    let are = c.requires.needs in
    let many = ap length are in
    testing_all (table_of c.args.fitting.table.now) c.args.heap.now all (listed c.loop-k.visits) c.args.n c.loop-k.k v c.loop-k.invariant.testing at_n
    (omega (arith, many, c.loop-k-test.false, c.len-k-end.ensures))

pub returns-then-len-eq0-clause-tests : goal.returns-then-len-eq0-clause-tests
returns-then-len-eq0-clause-tests c =
    let none : length (visit_fields (table_of c.args.fitting.table.now) c.args.heap.now c.args.visit) ≡ 0 = ap length c.requires.needs ∙ sym c.len.ensures ∙ c.if-len-eq0.true in
    testing_all (table_of c.args.fitting.table.now) c.args.heap.now (listed c.args.visits.now) (listed c.args.visits.now) c.args.n 0 c.args.visit
    (testing_first (table_of c.args.fitting.table.now) c.args.heap.now (listed c.args.visits.now) c.args.n c.requires.explored) c.requires.visit none

pub fields-words-requires : goal.fields-words-requires
fields-words-requires c =
    let are = c.requires.needs in
    let many = ap length are in
    some_fields (table_of c.args.fitting.table.now) c.args.heap.now c.args.visit.object c.args.visit.ty (visit_within (table_of c.args.fitting.table.now) c.args.heap.now (listed c.args.visits.now) c.args.n 0 c.args.n c.args.visit c.requires.explored c.requires.visit).0
    (omega (arith, many, c.len.ensures, c.if-len-eq0.false))

pub offset_bounds-words-step : goal.offset_bounds-words-step
offset_bounds-words-step c =
    let inside = word_inside c.args.heap.now c.args.visit.object c.get-step.result.0 c.fields-words.result.now c.fields-words.ensures.words
    (need_field (table_of c.args.fitting.table.now) c.args.heap.now c.args.visit.object c.args.visit.ty c.loop-k.k c.get-step.result.0 c.get-step.result.1 (visit_within (table_of c.args.fitting.table.now) c.args.heap.now (listed c.args.visits.now) c.args.n 0 c.args.n c.args.visit c.requires.explored c.requires.visit).0
    (ap (λ needs. slice_get needs c.loop-k.k) c.requires.needs ∙ c.get-step.ensures)) in
    omega (arith, inside, c.type_inv.words)

pub bounds-words-step : goal.bounds-words-step
bounds-words-step c =
    word_inside c.args.heap.now c.args.visit.object c.get-step.result.0 c.fields-words.result.now c.fields-words.ensures.words
    (need_field (table_of c.args.fitting.table.now) c.args.heap.now c.args.visit.object c.args.visit.ty c.loop-k.k c.get-step.result.0 c.get-step.result.1 (visit_within (table_of c.args.fitting.table.now) c.args.heap.now (listed c.args.visits.now) c.args.n 0 c.args.n c.args.visit c.requires.explored c.requires.visit).0
    (ap (λ needs. slice_get needs c.loop-k.k) c.requires.needs ∙ c.get-step.ensures))

pub take_need-requires-clause-word : goal.take_need-requires-clause-word
take_need-requires-clause-word c =
    let short = need_field (table_of c.args.fitting.table.now) c.args.heap.now c.args.visit.object c.args.visit.ty c.loop-k.k c.get-step.result.0 c.get-step.result.1 (visit_within (table_of c.args.fitting.table.now) c.args.heap.now (listed c.args.visits.now) c.args.n 0 c.args.n c.args.visit c.requires.explored c.requires.visit).0
    (ap (λ needs. slice_get needs c.loop-k.k) c.requires.needs ∙ c.get-step.ensures) in
    field_word c.args.heap.now c.args.visit.object c.get-step.result.0 (visit_within (table_of c.args.fitting.table.now) c.args.heap.now (listed c.args.visits.now) c.args.n 0 c.args.n c.args.visit c.requires.explored c.requires.visit).0 short c.fields-words.result.now _ c.fields-words.ensures.words refl

pub take_need-requires-clause-seen : goal.take_need-requires-clause-seen
take_need-requires-clause-seen c =
    let at_k = ap (λ needs. slice_get needs c.loop-k.k) c.requires.needs ∙ c.get-step.ensures in
    λ less. c.requires.seen c.get-step.result.0 c.get-step.result.1 less
    (typed_needed (table_of c.args.fitting.table.now) c.args.heap.now (vals.Ref c.args.visit.object) c.args.visit.ty c.get-step.result.0 c.get-step.result.1
    (slice_get-Contains (visit_fields (table_of c.args.fitting.table.now) c.args.heap.now c.args.visit) c.loop-k.k (c.get-step.result.0, c.get-step.result.1) at_k)
    (shape_asked c.args.fitting.table.now.nodes c.get-step.result.1 c.shape.result.now c.shape.ensures (sym c.is_asked.ensures ∙ c.if-not-is_asked.false)))

pub loop-k-init : goal.loop-k-init
loop-k-init c = record {
  linked = c.requires.linked;
  testing = testing_first (table_of c.args.fitting.table.now) c.args.heap.now (listed c.args.visits.now) c.args.n c.requires.explored;
  reached = 0;
  inside = omega arith;
  small = omega arith;
  later = λ j i a less at_j. omega arith;
  few = omega arith;
}

pub returns-in_err-take_need-clause-steps : goal.returns-in_err-take_need-clause-steps
returns-in_err-take_need-clause-steps c =
    let size = size_of c.args.heap.now c.args.visit.object in
    let short = need_field (table_of c.args.fitting.table.now) c.args.heap.now c.args.visit.object c.args.visit.ty c.loop-k.k c.get-step.result.0 c.get-step.result.1 (visit_within (table_of c.args.fitting.table.now) c.args.heap.now (listed c.args.visits.now) c.args.n 0 c.args.n c.args.visit c.requires.explored c.requires.visit).0
    (ap (λ needs. slice_get needs c.loop-k.k) c.requires.needs ∙ c.get-step.ensures) in
    let inside = word_inside c.args.heap.now c.args.visit.object c.get-step.result.0 c.fields-words.result.now c.fields-words.ensures.words short in
    let before = c.loop-k.invariant.later c.loop-k.k c.get-step.result.0 c.get-step.result.1 (omega arith) (ap (λ needs. slice_get needs c.loop-k.k) c.requires.needs ∙ c.get-step.ensures) in
    need_few size c.loop-k.invariant.reached c.get-step.result.0 c.args.seen c.args.steps.now c.loop-k.steps c.take_need.new.steps before short (omega (arith, inside, c.fields-words.type_inv)) c.loop-k.invariant.few
    c.take_need.ensures.steps c.take_need.ensures.counted

pub returns-then-not-branch-clause-steps : goal.returns-then-not-branch-clause-steps
returns-then-not-branch-clause-steps c =
    let size = size_of c.args.heap.now c.args.visit.object in
    let short = need_field (table_of c.args.fitting.table.now) c.args.heap.now c.args.visit.object c.args.visit.ty c.loop-k.k c.get-step.result.0 c.get-step.result.1 (visit_within (table_of c.args.fitting.table.now) c.args.heap.now (listed c.args.visits.now) c.args.n 0 c.args.n c.args.visit c.requires.explored c.requires.visit).0
    (ap (λ needs. slice_get needs c.loop-k.k) c.requires.needs ∙ c.get-step.ensures) in
    let inside = word_inside c.args.heap.now c.args.visit.object c.get-step.result.0 c.fields-words.result.now c.fields-words.ensures.words short in
    let before = c.loop-k.invariant.later c.loop-k.k c.get-step.result.0 c.get-step.result.1 (omega arith) (ap (λ needs. slice_get needs c.loop-k.k) c.requires.needs ∙ c.get-step.ensures) in
    need_few size c.loop-k.invariant.reached c.get-step.result.0 c.args.seen c.args.steps.now c.loop-k.steps c.take_need.new.steps before short (omega (arith, inside, c.fields-words.type_inv)) c.loop-k.invariant.few
    c.take_need.ensures.steps c.take_need.ensures.counted

pub returns-clause-steps : goal.returns-clause-steps
returns-clause-steps c =
    few_rest (size_of c.args.heap.now c.args.visit.object) c.loop-k.invariant.reached c.args.seen c.args.steps.now c.loop-k.steps
    c.loop-k.invariant.inside c.loop-k.invariant.small c.loop-k.invariant.few

-- ---- a field of an unconstrained type

pub shape-requires : goal.shape-requires
shape-requires c =
    need_node (table_of c.args.fitting.table.now) c.args.heap.now c.holds.ensures.lawful c.args.visit.object c.args.visit.ty c.loop-k.k c.get-step.result.0 c.get-step.result.1 (visit_within (table_of c.args.fitting.table.now) c.args.heap.now (listed c.args.visits.now) c.args.n 0 c.args.n c.args.visit c.requires.explored c.requires.visit).1 (ap (λ needs. slice_get needs c.loop-k.k)
    c.requires.needs
    ∙ c.get-step.ensures)

pub loop-k-preserved-then-not-is_asked : goal.loop-k-preserved-then-not-is_asked
loop-k-preserved-then-not-is_asked c =
    let needed = ap (λ needs. slice_get needs c.loop-k.k) c.requires.needs ∙ c.get-step.ensures in
    let wildcard = shape_wildcard c.args.fitting.table.now.nodes c.get-step.result.1 c.shape.result.now c.shape.ensures (sym c.is_asked.ensures ∙ c.if-not-is_asked.true) in
    let known = c.loop-k.invariant in
    record {
      linked = known.linked;
      testing = testing_wildcard (table_of c.args.fitting.table.now) c.args.heap.now (listed c.args.visits.now) (listed c.loop-k.visits) c.args.n c.loop-k.k c.get-step.result.0 c.get-step.result.1 c.args.visit known.testing c.requires.visit needed wildcard;
      reached = known.reached;
      inside = known.inside;
      small = known.small;
      later = λ j l b less at_j. known.later j l b (omega (arith, less)) at_j;
      few = known.few;
    }
