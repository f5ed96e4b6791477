use Rattle.std.proofs.Common.{◌≡◌, ◌∙◌, length, refl, ap, subst, arith}
use Rattle.std.specs.Prelude.{slice_set}
use Rattle.std.proofs.lemmas.Bool.{OnTrue_at, OnFalse_at}
use Rattle.std.proofs.lemmas.List.{length-replicate}
use Rattle.types_table.specs.type_table.Made.{table_of}
use Rattle.check_heap.specs.scan.Scan.{IsGoing}
use Rattle.check_heap.proofs.scan.ScanLemmas.{scanning_none}
use Rattle.check_heap.proofs.scan.NoteLemmas.{notes_none}
use Rattle.check_heap.proofs.scan.straight.scan.Goals as goal

pub stopped-first-requires-clause-stopped : goal.stopped-first-requires-clause-stopped
stopped-first-requires-clause-stopped c = OnFalse_at c.if-not-branch.true c.in_ok-take_object.ensures.stopped

pub loop-o-preserved : goal.loop-o-preserved
loop-o-preserved c = (
  c.in_ok-take_object.ensures.many,
  c.loop-o.invariant.1,
  OnTrue_at c.if-not-branch.false c.in_ok-take_object.ensures.going,
)

pub known-requires-clause-going : goal.known-requires-clause-going
known-requires-clause-going c =
    let all : c.loop-o.o ≡ length c.args.heap.now = omega (arith, c.loop-o.auto.o-end, c.loop-o-test.false, c.count-o-end.ensures.count) in
    subst (λ n. IsGoing (table_of c.args.fitting.table.now) c.args.heap.now c.loop-o.marks c.loop-o.types c.loop-o.notes n c.loop-o.taken) all c.loop-o.invariant.2

pub loop-o-init : goal.loop-o-init
loop-o-init c =
    let graph = c.args.heap.now in
    let made = c.in_ok-set.ensures ∙ ap (λ marks. slice_set marks c.key.result 1) c.in_ok-marks.ensures in (
      ap length c.in_ok-types.ensures ∙ length-replicate c.count.result 0 ∙ c.count.ensures.count,
      refl,
      record {
        scanning = scanning_none (table_of c.args.fitting.table.now) graph c.set.new.self c.keys.result c.key.result c.new-taken.result
            c.count.ensures.heap.is_graph c.requires c.holds.ensures.lawful.rooted c.keys.ensures (c.key.ensures 0 c.requires c.word.ensures) made c.new-taken.ensures _;
        noted = notes_none (table_of c.args.fitting.table.now) graph c.set.new.self _ 0 c.none-notes.result c.none-notes.ensures.none c.none-notes.ensures.known c.none-notes.ensures.first;
      },
    )
