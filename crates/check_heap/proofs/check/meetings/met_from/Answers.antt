use Rattle.std.proofs.Common.{subst}
use Rattle.types_table.specs.type_table.Made.{table_of}
use Rattle.check_heap.specs.check.Search.{SearchesVisits}
use Rattle.check_heap.specs.check.Visits.{listed}
use Rattle.check_heap.proofs.check.CheckDecideLemmas.{first_explored}
use Rattle.check_heap.proofs.check.CheckMetLemmas.{never_mismatch, all_met}
use Rattle.check_heap.proofs.check.meetings.met_from.Goals as goal

pub search-requires-clause-explored : goal.search-requires-clause-explored
search-requires-clause-explored c =
    first_explored (table_of c.args.table.now) c.args.heap.now (listed c.in_ok-visits.visits) c.args.object c.in_ok-visits.ensures.root c.holds.ensures.lawful c.requires.object
    c.requires.has.fits

pub unreachable-requires : goal.unreachable-requires
unreachable-requires c =
    never_mismatch (table_of c.args.table.now) c.args.heap.now c.holds.ensures.lawful (listed c.in_ok-visits.visits) (listed c.search.new.visits) c.args.object c.in-Some.field-0.0 c.in-Some.field-0.1
    c.in_ok-visits.ensures.root
    (subst (SearchesVisits (table_of c.args.table.now) c.args.heap.now (listed c.in_ok-visits.visits) (listed c.search.new.visits)) c.in-Some.is c.in_ok-search.ensures.searches)
    c.requires.has

pub returns : goal.returns
returns c =
    all_met (table_of c.args.table.now) c.args.heap.now c.holds.ensures.lawful (listed c.in_ok-visits.visits) (listed c.search.new.visits) c.args.object c.in_ok-visits.ensures.root
    (subst (SearchesVisits (table_of c.args.table.now) c.args.heap.now (listed c.in_ok-visits.visits) (listed c.search.new.visits)) c.in-None.is c.in_ok-search.ensures.searches)
