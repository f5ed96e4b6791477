use Rattle.std.proofs.Common.{◌<◌, sym, subst}
use Rattle.types_table.specs.type_table.Made.{table_of}
use Rattle.check_heap.proofs.check.CheckVisitLemmas.{visit_within}
use Rattle.check_heap.proofs.check.SeenLemmas.{visit_seen}
use Rattle.check_heap.specs.check.Visits.{listed}
use Rattle.check_heap.specs.check.Search.{AreSeen}
use Rattle.check_heap.proofs.check.search.take_seen.Goals as goal

pub take_visit-requires-clause-seen : goal.take_visit-requires-clause-seen
take_visit-requires-clause-seen c =
    let within = visit_within (table_of c.args.fitting.table.now) c.args.heap.now (listed c.args.visits.now) c.args.n 0 c.args.n c.args.visit c.requires.explored c.requires.visit in
    subst (AreSeen (table_of c.args.fitting.table.now) c.args.heap.now c.args.taken.now c.args.visit) (sym c.seen_of-seen.ensures)
    (visit_seen (table_of c.args.fitting.table.now) c.args.heap.now c.args.taken.now c.holds.ensures.lawful c.args.visit c.requires.taken
    (subst (λ m. c.args.visit.ty < m) (sym c.holds.ensures.lawful.classed) within.1) c.requires.equal)
