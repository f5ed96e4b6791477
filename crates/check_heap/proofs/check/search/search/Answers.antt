use Rattle.std.proofs.Common.{◌<◌, length, subst}
use Rattle.types_table.specs.type_table.Made.{table_of}
use Rattle.check_heap.specs.check.Search.{TestsVisit}
use Rattle.check_heap.specs.check.Visits.{listed}
use Rattle.check_heap.proofs.check.CheckTestLemmas.{search_few, searched_few, searching_more}
use Rattle.check_heap.proofs.check.search.search.Goals as goal

pub returns-in_err-step-clause-steps : goal.returns-in_err-step-clause-steps
returns-in_err-step-clause-steps c =
    let inside : c.loop-fitting.n < length (listed c.loop-fitting.visits) = c.has.ensures.has.0 c.loop-fitting-test.true in
    search_few (table_of c.args.fitting.table.now) c.args.heap.now c.args.taken.now (listed c.loop-fitting.visits) c.loop-fitting.n c.args.steps.now c.loop-fitting.steps c.test_visit.new.steps c.holds.ensures.lawful c.requires.taken c.loop-fitting.invariant.explored inside c.loop-fitting.invariant.few c.test_visit.ensures.steps

pub returns-in-Some-clause-steps : goal.returns-in-Some-clause-steps
returns-in-Some-clause-steps c =
    let inside : c.loop-fitting.n < length (listed c.loop-fitting.visits) = c.has.ensures.has.0 c.loop-fitting-test.true in
    search_few (table_of c.args.fitting.table.now) c.args.heap.now c.args.taken.now (listed c.loop-fitting.visits) c.loop-fitting.n c.args.steps.now c.loop-fitting.steps c.test_visit.new.steps c.holds.ensures.lawful c.requires.taken c.loop-fitting.invariant.explored inside c.loop-fitting.invariant.few c.test_visit.ensures.steps

pub loop-fitting-preserved : goal.loop-fitting-preserved
loop-fitting-preserved c =
    let inside : c.loop-fitting.n < length (listed c.loop-fitting.visits) = c.has.ensures.has.0 c.loop-fitting-test.true in
    searching_more (table_of c.args.fitting.table.now) c.args.heap.now c.args.taken.now c.args.visits.now c.loop-fitting.visits c.test_visit.new.visits c.loop-fitting.n c.args.steps.now c.loop-fitting.steps c.test_visit.new.steps c.loop-fitting.invariant inside
    c.in_ok-step.ensures.linked (subst (TestsVisit (table_of c.args.fitting.table.now) c.args.heap.now (listed c.loop-fitting.visits) (listed c.test_visit.new.visits) c.loop-fitting.n) c.in_default.is c.in_ok-step.ensures.tests) c.test_visit.ensures.steps

pub returns-clause-steps : goal.returns-clause-steps
returns-clause-steps c =
    searched_few (table_of c.args.fitting.table.now) c.args.heap.now c.args.taken.now (listed c.loop-fitting.visits) c.loop-fitting.n c.args.steps.now c.loop-fitting.steps c.holds.ensures.lawful c.requires.taken c.loop-fitting.invariant.explored c.loop-fitting.invariant.few
