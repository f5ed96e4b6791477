use Rattle.std.proofs.Common.{subst}
use Rattle.std.specs.Prelude.{IsSome}
use Rattle.base_data.specs.declared.model.value.Val.TheVariants as vals
use Rattle.types_spec.specs.types.Fitting.{fields_of}
use Rattle.types_spec.specs.types.Table.{node_or_none}
use Rattle.types_table.specs.type_table.Made.{table_of}
use Rattle.check_heap.proofs.check.CheckVisitLemmas.{visit_within, visit_fits}
use Rattle.check_heap.proofs.scan.ScanNeedLemmas.{never_unfit}
use Rattle.check_heap.specs.check.Visits.{listed}
use Rattle.check_heap.proofs.check.search.take_visit.Goals as goal

pub shape-requires : goal.shape-requires
shape-requires c =
    let all = (listed c.args.visits.now) in
    let at_n = c.requires.visit in
    (visit_within (table_of c.args.fitting.table.now) c.args.heap.now all c.args.n 0 c.args.n c.args.visit c.requires.explored at_n).1

pub known_needs-requires-clause-fits : goal.known_needs-requires-clause-fits
known_needs-requires-clause-fits c =
    let fits = visit_fits (table_of c.args.fitting.table.now) c.args.heap.now (listed c.args.visits.now) c.args.n 0 c.args.n c.args.visit c.requires.explored c.requires.visit in
    subst (λ n. IsSome (fields_of c.args.heap.now (vals.Ref c.args.visit.object) (node_or_none n))) c.shape.ensures fits

pub known_needs-requires-clause-object : goal.known_needs-requires-clause-object
known_needs-requires-clause-object c =
    let all = (listed c.args.visits.now) in
    let at_n = c.requires.visit in
    (visit_within (table_of c.args.fitting.table.now) c.args.heap.now all c.args.n 0 c.args.n c.args.visit c.requires.explored at_n).0

pub returns-in_default-clause-tests : goal.returns-in_default-clause-tests
returns-in_default-clause-tests c =
    let all = (listed c.args.visits.now) in
    let v = c.args.visit in
    let at_n = c.requires.visit in
    absurd (never_unfit (table_of c.args.fitting.table.now) c.args.heap.now v.object v.ty c.shape.result.now c.known_needs.result c.shape.ensures c.known_needs.ensures c.in_default.is
    (visit_fits (table_of c.args.fitting.table.now) c.args.heap.now all c.args.n 0 c.args.n v c.requires.explored at_n))
