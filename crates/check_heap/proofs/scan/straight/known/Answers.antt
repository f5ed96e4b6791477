use Rattle.std.proofs.Common.{ℕ, ◌≡◌, ◌∙◌, List, length, take, take_all, refl, sym, ap, subst, arith}
use Rattle.std.specs.Prelude.{slice_get}
use Rattle.base_data.specs.declared.model.value.Obj.{Obj}
use Rattle.types_spec.specs.types.Table.{Table}
use Rattle.types_table.specs.type_table.Made.{table_of}
use Rattle.check_heap.specs.scan.Seconds.{noted_in}
use Rattle.check_heap.specs.scan.Scanned.{IsScannedBut, cost_of}
use Rattle.check_heap.specs.scan.Scan.{IsScanning}
use Rattle.check_heap.proofs.scan.NoteLemmas.{none_noted, first_stopped}
use Rattle.check_heap.proofs.scan.ScanLemmas.{all_scanned, all_noted, all_few, all_paths, types_paths}
use Rattle.check_heap.proofs.scan.straight.known.Goals as goal

-- If all objects were checked, then the invariant holds for the whole list of types.
whole :
    (table : Table) (graph : List Obj) (marks : List ℕ) (noted : List (ℕ × ℕ)) (types : List ℕ) (steps : ℕ) → length types ≡ length graph
    → IsScanning table graph marks noted (take (length graph) types) (length graph) steps → IsScanning table graph marks noted types (length graph) steps
whole table graph marks noted types steps many scanning =
    subst (λ ts. IsScanning table graph marks noted ts (length graph) steps) (take_all (length graph) types (omega (arith, many))) scanning

pub returns-in_default-clause-types : goal.returns-in_default-clause-types
returns-in_default-clause-types c =
    let t = table_of c.args.table.now in
    let graph = c.args.heap.now in
    let noted = noted_in c.args.notes.seconds in
    all_scanned t graph c.args.marks.now noted c.args.types c.args.taken c.holds.ensures.lawful c.count-count.ensures.heap.is_graph
    (whole t graph c.args.marks.now noted c.args.types c.args.taken c.requires.many c.requires.going.scanning) c.requires.some
    (none_noted t graph c.args.marks.now c.args.types _ c.args.notes c.requires.going.noted c.in_default.is)

pub returns-in_default-clause-paths : goal.returns-in_default-clause-paths
returns-in_default-clause-paths c =
    let t = table_of c.args.table.now in
    let graph = c.args.heap.now in
    let noted = noted_in c.args.notes.seconds in
    all_paths t graph c.args.marks.now noted c.args.types c.args.taken c.holds.ensures.lawful c.count-count.ensures.heap.is_graph
    (whole t graph c.args.marks.now noted c.args.types c.args.taken c.requires.many c.requires.going.scanning)

pub returns-in_default-clause-steps : goal.returns-in_default-clause-steps
returns-in_default-clause-steps c =
    let t = table_of c.args.table.now in
    let graph = c.args.heap.now in
    let noted = noted_in c.args.notes.seconds in
    let few = all_few t graph c.args.marks.now noted c.args.types c.args.taken c.holds.ensures.lawful c.count-count.ensures.heap.is_graph
    (whole t graph c.args.marks.now noted c.args.types c.args.taken c.requires.many c.requires.going.scanning) in
    omega (arith, few, c.raise_by.ensures.more, c.taken.ensures)

pub until_first-taken_before-requires-clause-stopped : goal.until_first-taken_before-requires-clause-stopped
until_first-taken_before-requires-clause-stopped c =
    first_stopped (table_of c.args.table.now) c.args.heap.now c.args.marks.now c.args.types _ c.args.notes c.in-Some.first c.requires.going.noted c.in-Some.is

pub returns-clause-types : goal.returns-clause-types
returns-clause-types c =
    let t = table_of c.args.table.now in
    let graph = c.args.heap.now in
    let noted = noted_in c.args.notes.seconds in (
      subst (λ ts. IsScannedBut t graph ts c.args.notes.seconds) (sym c.until_first-taken_before.ensures.row)
          (all_noted t graph c.args.marks.now noted c.args.types c.args.taken c.holds.ensures.lawful c.count-count.ensures.heap.is_graph
          (whole t graph c.args.marks.now noted c.args.types c.args.taken c.requires.many c.requires.going.scanning)
          c.args.notes.seconds c.requires.some refl c.requires.going.noted.noted),
      c.until_first-taken_before.ensures.types,
    )

pub returns-clause-paths : goal.returns-clause-paths
returns-clause-paths c =
    let t = table_of c.args.table.now in
    let graph = c.args.heap.now in
    let noted = noted_in c.args.notes.seconds in (
      λ o ty at_o. types_paths t graph c.args.marks.now noted c.args.types c.args.taken c.holds.ensures.lawful c.count-count.ensures.heap.is_graph
          (whole t graph c.args.marks.now noted c.args.types c.args.taken c.requires.many c.requires.going.scanning) o ty
          (ap (λ ts. slice_get ts o) (sym c.until_first-taken_before.ensures.row) ∙ at_o),
      λ o ty among. (c.requires.going.noted.noted.all o ty among).path,
    )

pub returns-clause-steps : goal.returns-clause-steps
returns-clause-steps c =
    let graph = c.args.heap.now in
    let scanning = whole (table_of c.args.table.now) graph c.args.marks.now (noted_in c.args.notes.seconds) c.args.types c.args.taken c.requires.many c.requires.going.scanning in
    let few = scanning.few in
    let row = ap (cost_of graph) c.until_first-taken_before.ensures.row in (
      refl,
      (omega (arith, few, row, c.taken-2.ensures), c.until_first-taken_before.ensures.steps),
    )
