use Rattle.std.proofs.Common.{length, sym, subst, arith}
use Rattle.std.proofs.lemmas.Option.{slice_get_within}
use Rattle.std.specs.Prelude.{Contains}
use Rattle.base_data.specs.declared.model.value.Val.TheVariants as vals
use Rattle.types_spec.specs.types.Table.{table_shapes}
use Rattle.types_spec.specs.types.Typing.{HasType}
use Rattle.types_table.specs.type_table.Made.{table_of}
use Rattle.check_heap.proofs.check.SpentLemmas.{taken_few}
use Rattle.check_heap.specs.check.Conflict.{NoneConflict, IsFirstConflict}
use Rattle.check_heap.specs.check.Search.{SearchesVisits}
use Rattle.check_heap.specs.check.Verdict.{IsYes}
use Rattle.check_heap.specs.check.Visits.{listed}
use Rattle.check_heap.proofs.check.CheckVisitLemmas.{all_within, visits_apart}
use Rattle.check_heap.proofs.check.CheckDecideLemmas.{first_explored, mismatch_verdict, conflict_verdict, yes_verdict, yes_paths}
use Rattle.check_heap.proofs.check.decide.search_object.Goals as goal

pub search-requires-clause-explored : goal.search-requires-clause-explored
search-requires-clause-explored c =
    first_explored (table_of c.args.fitting.table.now) c.args.heap.now (listed c.in_ok-visits.visits) c.args.object c.in_ok-visits.ensures.root c.holds.ensures.lawful c.requires.object c.requires.fits

pub returns-in-Some-clause-verdict : goal.returns-in-Some-clause-verdict
returns-in-Some-clause-verdict c =
    mismatch_verdict (table_of c.args.fitting.table.now) c.args.heap.now (listed c.in_ok-visits.visits) (listed c.search.new.visits) c.args.object c.in-Some.n c.in-Some.step c.in_ok-path.path c.push.new.self
    c.in_ok-visits.ensures.root
    (subst (SearchesVisits (table_of c.args.fitting.table.now) c.args.heap.now (listed c.in_ok-visits.visits) (listed c.search.new.visits)) c.in-Some.is c.in_ok-n.ensures.searches)
    c.in_ok-path.ensures
    c.in_ok-push.ensures.ok

pub first_conflict-requires-clause-within : goal.first_conflict-requires-clause-within
first_conflict-requires-clause-within c =
    let searches = subst (SearchesVisits (table_of c.args.fitting.table.now) c.args.heap.now (listed c.in_ok-visits.visits) (listed c.search.new.visits)) c.in_default.is c.in_ok-n.ensures.searches in
    all_within (table_of c.args.fitting.table.now) c.args.heap.now (listed c.search.new.visits) (length (listed c.search.new.visits)) 0 searches.tested

pub first_conflict-requires-clause-apart : goal.first_conflict-requires-clause-apart
first_conflict-requires-clause-apart c =
    let searches = subst (SearchesVisits (table_of c.args.fitting.table.now) c.args.heap.now (listed c.in_ok-visits.visits) (listed c.search.new.visits)) c.in_default.is c.in_ok-n.ensures.searches in
    λ j k v w. visits_apart (table_of c.args.fitting.table.now) c.args.heap.now (listed c.search.new.visits) (length (listed c.search.new.visits)) 0 j k v w searches.tested

pub conflict-requires-clause-first : goal.conflict-requires-clause-first
conflict-requires-clause-first c =
    let is : IsFirstConflict (table_of c.args.fitting.table.now) c.args.heap.now (listed c.search.new.visits) c.in-Some-first_conflict.first c.in-Some-first_conflict.second = c.in-Some-first_conflict.ensures in
    slice_get_within (listed c.search.new.visits) c.in-Some-first_conflict.first is.conflict.one is.conflict.at_first

pub conflict-requires-clause-second : goal.conflict-requires-clause-second
conflict-requires-clause-second c =
    let is : IsFirstConflict (table_of c.args.fitting.table.now) c.args.heap.now (listed c.search.new.visits) c.in-Some-first_conflict.first c.in-Some-first_conflict.second = c.in-Some-first_conflict.ensures in
    slice_get_within (listed c.search.new.visits) c.in-Some-first_conflict.second is.conflict.other is.conflict.at_second

pub returns-in_ok-fault-in-Some-first_conflict-clause-verdict : goal.returns-in_ok-fault-in-Some-first_conflict-clause-verdict
returns-in_ok-fault-in-Some-first_conflict-clause-verdict c =
    let is : IsFirstConflict (table_of c.args.fitting.table.now) c.args.heap.now (listed c.search.new.visits) c.in-Some-first_conflict.first c.in-Some-first_conflict.second = c.in-Some-first_conflict.ensures in
    conflict_verdict (table_of c.args.fitting.table.now) c.args.heap.now (listed c.in_ok-visits.visits) (listed c.search.new.visits) c.args.object c.in-Some-first_conflict.first c.in-Some-first_conflict.second
    c.in_ok-fault-in-Some-first_conflict.fault c.holds.ensures.lawful c.in_ok-visits.ensures.root
    (subst (SearchesVisits (table_of c.args.fitting.table.now) c.args.heap.now (listed c.in_ok-visits.visits) (listed c.search.new.visits)) c.in_default.is c.in_ok-n.ensures.searches)
    is
    c.in_ok-fault-in-Some-first_conflict.ensures

pub returns-in-None-clause-verdict : goal.returns-in-None-clause-verdict
returns-in-None-clause-verdict c =
    let none : NoneConflict (table_of c.args.fitting.table.now) c.args.heap.now (listed c.search.new.visits) (length (listed c.search.new.visits)) = c.in-None.ensures in
    subst (λ pairs. HasType (table_shapes (table_of c.args.fitting.table.now)) c.args.heap.now (vals.Ref c.args.object) 0 × IsYes (table_of c.args.fitting.table.now) c.args.heap.now (vals.Ref c.args.object) pairs) (sym c.of.ensures)
    (yes_verdict (table_of c.args.fitting.table.now) c.args.heap.now (listed c.in_ok-visits.visits) (listed c.search.new.visits) c.args.object c.in_ok-visits.ensures.root
    (subst (SearchesVisits (table_of c.args.fitting.table.now) c.args.heap.now (listed c.in_ok-visits.visits) (listed c.search.new.visits)) c.in_default.is c.in_ok-n.ensures.searches)
    none)

pub returns-in_err-visits-clause-steps : goal.returns-in_err-visits-clause-steps
returns-in_err-visits-clause-steps c =
    let few = taken_few (table_of c.args.fitting.table.now) c.args.heap.now c.args.taken.now c.holds.ensures.lawful c.requires.taken in
    omega (arith, few)

pub returns-in-None-clause-paths : goal.returns-in-None-clause-paths
returns-in-None-clause-paths c =
    let table = table_of c.args.fitting.table.now in
    let graph = c.args.heap.now in
    let searches = subst (SearchesVisits table graph (listed c.in_ok-visits.visits) (listed c.search.new.visits)) c.in_default.is c.in_ok-n.ensures.searches in
    λ o t among.
    yes_paths table graph (listed c.in_ok-visits.visits) (listed c.search.new.visits) c.args.object c.in_ok-visits.ensures.root searches o t
    (subst (λ pairs. Contains pairs (o, t)) c.of.ensures among)
