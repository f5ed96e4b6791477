use Rattle.std.proofs.Common.{inl, inr, refl, subst}
use Rattle.std.specs.Prelude.{MatchBool}
use Rattle.types_table.specs.type_table.Made.{table_of}
use Rattle.check_heap.specs.scan.Classed.{Has}
use Rattle.check_heap.proofs.scan.ScanSecondLemmas.{second_there, second_known, seconds_same, seconds_more}
use Rattle.check_heap.proofs.scan.second_types.SecondTypes.note.Goals as goal

pub returns-then-not-branch-clause-seconds : goal.returns-then-not-branch-clause-seconds
returns-then-not-branch-clause-seconds c =
    let has = Has c.args.self.now.known c.args.object c.class-class.result in
    seconds_same (table_of c.args.table.now) c.args.self.now (record { listed = c.args.self.now.listed; known = c.insert.new.self }) c.args.object c.class-class.result
    c.requires.seconds (subst (λ added. MatchBool added (¬ has) has) c.if-not-branch.true c.in_ok-insert.ensures.added) c.in_ok-insert.ensures.inserts refl

pub returns-then-not-branch-clause-notes : goal.returns-then-not-branch-clause-notes
returns-then-not-branch-clause-notes c =
    let has = Has c.args.self.now.known c.args.object c.class-class.result in
    inl (
      second_there (table_of c.args.table.now) c.args.self.now c.args.object c.args.ty c.class-class.result c.requires.seconds c.class-class.ensures
          (subst (λ added. MatchBool added (¬ has) has) c.if-not-branch.true c.in_ok-insert.ensures.added),
      refl,
    )

pub returns-clause-seconds : goal.returns-clause-seconds
returns-clause-seconds c =
    let has = Has c.args.self.now.known c.args.object c.class-class.result in
    seconds_more (table_of c.args.table.now) c.args.self.now (record { listed = c.push.new.self; known = c.insert.new.self }) c.args.object c.args.ty c.class-class.result c.requires.seconds c.class-class.ensures
    (subst (λ added. MatchBool added (¬ has) has) c.if-not-branch.false c.in_ok-insert.ensures.added) c.in_ok-insert.ensures.inserts c.in_ok-push.ensures

pub returns-clause-notes : goal.returns-clause-notes
returns-clause-notes c =
    let has = Has c.args.self.now.known c.args.object c.class-class.result in
    let fresh = subst (λ added. MatchBool added (¬ has) has) c.if-not-branch.false c.in_ok-insert.ensures.added in
    inr (
      λ listed. fresh (second_known (table_of c.args.table.now) c.args.self.now c.args.object c.args.ty c.class-class.result c.requires.seconds c.class-class.ensures listed),
      c.in_ok-push.ensures,
    )
