use Rattle.std.proofs.Common.{◌<◌, sym, subst}
use Rattle.types_table.specs.type_table.Made.{table_of}
use Rattle.check_heap.proofs.check.CheckVisitLemmas.{visit_within}
use Rattle.check_heap.specs.check.Visits.{listed}
use Rattle.check_heap.proofs.check.search.test_visit.Goals as goal

pub was_taken-requires-clause-ty : goal.was_taken-requires-clause-ty
was_taken-requires-clause-ty c =
    let within = visit_within (table_of c.args.fitting.table.now) c.args.heap.now (listed c.args.visits.now) c.args.n 0 c.args.n c.get-visit.result c.requires.explored c.get-visit.ensures in
    subst (λ m. c.get-visit.result.ty < m) (sym c.holds.ensures.lawful.classed) within.1
