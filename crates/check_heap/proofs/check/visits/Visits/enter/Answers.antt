use Rattle.std.proofs.Common.{suc, ◌≡◌, ◌∙◌, inr, sym, ap, arith}
use Rattle.std.specs.Prelude.{slice_set}
use Rattle.types_table.specs.type_table.Made.{table_of}
use Rattle.check_heap.specs.check.Visits.{listed}
use Rattle.check_heap.proofs.scan.ScanPositionLemmas.{read_at}
use Rattle.check_heap.specs.scan.Classed.{Has}
use Rattle.check_heap.proofs.check.CheckNotedLemmas.{met_never, linked_first}
use Rattle.check_heap.proofs.check.visits.Visits.enter.Goals as goal

pub returns-then-first-eq0-clause-linked : goal.returns-then-first-eq0-clause-linked
returns-then-first-eq0-clause-linked c =
    let at_o = read_at c.args.self.now.first c.args.object 0 c.requires.object (sym c.if-first-eq0.true ∙ c.requires.noted) in
    let cell : c.in-Some.cell ≡ suc c.args.ty = omega (arith, c.in-Some.ensures) in
    linked_first (table_of c.args.table.now) _ c.args.self.now c.append.new.self c.args.object c.args.ty c.args.parent c.args.step c.requires.linked
    c.in_ok-append.ensures.all at_o
    (c.in_ok-append.ensures.first ∙ c.in_ok-set.ensures ∙ ap (slice_set c.args.self.now.first c.args.object) cell) c.in_ok-append.ensures.later

pub returns-then-first-eq0-clause-enters : goal.returns-then-first-eq0-clause-enters
returns-then-first-eq0-clause-enters c =
    let at_o = read_at c.args.self.now.first c.args.object 0 c.requires.object (sym c.if-first-eq0.true ∙ c.requires.noted) in
    inr (met_never (table_of c.args.table.now) (listed c.args.self.now) c.args.self.now.first (Has c.args.self.now.later) c.requires.linked.noted c.args.object _ at_o, c.in_ok-append.ensures.all)
