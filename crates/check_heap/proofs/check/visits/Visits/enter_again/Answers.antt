use Rattle.std.proofs.Common.{suc, ◌-◌, ◌≡◌, ◌∙◌, inl, inr, Some, refl, sym, ap, subst, arith}
use Rattle.std.specs.Prelude.{MatchBool}
use Rattle.std.proofs.lemmas.Option.{same_Some}
use Rattle.types_table.specs.type_table.Made.{table_of}
use Rattle.check_heap.specs.check.Visits.{listed, IsMet}
use Rattle.check_heap.specs.scan.Classed.{Has, Inserts}
use Rattle.check_heap.proofs.scan.ScanPositionLemmas.{read_at}
use Rattle.check_heap.proofs.check.CheckNotedLemmas.{met_first, met_nowhere, linked_later, linked_known, first_classed}
use Rattle.check_heap.proofs.check.visits.Visits.enter_again.Goals as goal

pub class-requires : goal.class-requires
class-requires c =
    let n = c.args.first in
    let at_n = read_at c.args.self.now.first c.args.object c.args.first c.requires.object c.requires.noted in
    let more : c.args.first ≡ suc (c.args.first - 1) = omega (arith, c.requires.met) in
    first_classed (table_of c.args.table.now) _ c.args.self.now c.args.object (c.args.first - 1) c.requires.linked c.requires.types
    (at_n ∙ ap (λ m. Some m) more)

pub returns-then-class-clause-enters : goal.returns-then-class-clause-enters
returns-then-class-clause-enters c =
    let at_n = read_at c.args.self.now.first c.args.object c.args.first c.requires.object c.requires.noted in
    let more : c.args.first ≡ suc (c.args.first - 1) = omega (arith, c.requires.met) in
    let met = met_first (table_of c.args.table.now) (listed c.args.self.now) c.args.self.now.first (Has c.args.self.now.later) c.requires.linked.noted c.args.object (c.args.first - 1) (at_n ∙ ap (λ m. Some m) more) in
    inl (subst (IsMet (table_of c.args.table.now) (listed c.args.self.now) c.args.object) (c.class.ensures ∙ ap (λ m. Some m) c.if-class.true ∙ sym c.class-class.ensures) met, refl)

pub returns-then-not-branch-clause-linked : goal.returns-then-not-branch-clause-linked
returns-then-not-branch-clause-linked c =
    let has = Has c.args.self.now.later c.args.object c.class-class.result in
    linked_known (table_of c.args.table.now) _ c.args.self.now c.insert.new.self c.args.object c.class-class.result c.requires.linked
    (subst (λ added. MatchBool added (¬ has) has) c.if-not-branch.true c.in_ok-insert.ensures.added) c.in_ok-insert.ensures.inserts

pub returns-then-not-branch-clause-enters : goal.returns-then-not-branch-clause-enters
returns-then-not-branch-clause-enters c =
    let has = Has c.args.self.now.later c.args.object c.class-class.result in
    let met = c.requires.linked.noted.there c.args.object c.class-class.result
    (subst (λ added. MatchBool added (¬ has) has) c.if-not-branch.true c.in_ok-insert.ensures.added) in
    inl (subst (IsMet (table_of c.args.table.now) (listed c.args.self.now) c.args.object) (sym c.class-class.ensures) met, refl)

pub returns-clause-linked : goal.returns-clause-linked
returns-clause-linked c =
    let at_n = read_at c.args.self.now.first c.args.object c.args.first c.requires.object c.requires.noted in
    let more : c.args.first ≡ suc (c.args.first - 1) = omega (arith, c.requires.met) in
    linked_later (table_of c.args.table.now) _ c.args.self.now c.append.new.self c.args.object c.args.ty c.args.parent c.args.step c.requires.linked
    c.in_ok-append.ensures.all (c.args.first - 1) c.class-class.result (at_n ∙ ap (λ m. Some m) more) c.class-class.ensures
    c.in_ok-append.ensures.first (subst (λ later. Inserts c.args.self.now.later later c.args.object c.class-class.result) (sym c.in_ok-append.ensures.later) c.in_ok-insert.ensures.inserts)

pub returns-clause-enters : goal.returns-clause-enters
returns-clause-enters c =
    let has = Has c.args.self.now.later c.args.object c.class-class.result in
    let at_n = read_at c.args.self.now.first c.args.object c.args.first c.requires.object c.requires.noted in
    let more : c.args.first ≡ suc (c.args.first - 1) = omega (arith, c.requires.met) in
    let never = met_nowhere (table_of c.args.table.now) (listed c.args.self.now) c.args.self.now.first (Has c.args.self.now.later) c.requires.linked.noted c.args.object (c.args.first - 1) c.class-class.result
    (at_n ∙ ap (λ m. Some m) more)
    (λ same. c.if-class.false (same_Some c.class.result c.class-class.result (sym c.class.ensures ∙ same)))
    (subst (λ added. MatchBool added (¬ has) has) c.if-not-branch.false c.in_ok-insert.ensures.added) in
    inr (subst (λ class. ¬ IsMet (table_of c.args.table.now) (listed c.args.self.now) c.args.object class) (sym c.class-class.ensures) never, c.in_ok-append.ensures.all)
