use Rattle.std.proofs.Common.{drop, Ok, Err, ◌∙◌, subst, zero-add, arith}
use Rattle.std.proofs.lemmas.List.{length-drop, take_rest}
use Rattle.run_loop.specs.work.GatheredOutput.{GathersTo, GathersSome}
use Rattle.run_loop.proofs.work.WorkGatherLemmas.{gathers_none, gathers_more, gathers_error}
use Rattle.run_loop.proofs.work.gathered_output.gather.Goals as goal

pub returns-in_err-taken-clause-gathers : goal.returns-in_err-taken-clause-gathers
returns-in_err-taken-clause-gathers g c =
    gathers_error g.W.Work.commands (g.W.Work.act c.args.work.now) (g.W.Work.has c.args.work.now) (g.W.Work.has c.args.work.now) (g.W.Work.has c.gather_some.new.work) c.args.buffered.now c.args.text.now.bytes.items c.gather_some.new.text.bytes.items 0
    (λ bytes output there. gathers_none g.W.Work.commands (g.W.Work.act c.args.work.now) (g.W.Work.has c.args.work.now) c.args.buffered.now c.args.text.now.bytes.items bytes output there c.requires.none)
    (g.W.Work.has c.gather_some.new.work) c.in_err-taken.field-0.0 c.from_residual.result c.from_residual.ensures.1 c.in_err-taken.ensures.gathers

pub loop-taken-init : goal.loop-taken-init
loop-taken-init g c = record {
  kept = c.in_ok-taken.ensures.kept;
  some = c.in_ok-taken.ensures.gathers.0;
  fits = c.in_ok-taken.ensures.gathers.1;
  so_far = λ bytes output there.
      subst (λ n. GathersTo g.W.Work.commands (g.W.Work.act c.args.work.now) (g.W.Work.has c.gather_some.new.work) c.args.buffered.now n c.gather_some.new.text.bytes.items bytes output) (zero-add c.in_ok-taken.taken)
      (gathers_more g.W.Work.commands (g.W.Work.act c.args.work.now) (g.W.Work.has c.args.work.now) (g.W.Work.has c.args.work.now) (g.W.Work.has c.gather_some.new.work) c.args.buffered.now c.args.text.now.bytes.items c.gather_some.new.text.bytes.items 0
      (λ bytes output there. gathers_none g.W.Work.commands (g.W.Work.act c.args.work.now) (g.W.Work.has c.args.work.now) c.args.buffered.now c.args.text.now.bytes.items bytes output there c.requires.none)
      c.in_ok-taken.taken c.in_ok-taken.ensures.gathers bytes output there);
}

pub returns-in_err-taken-2-clause-gathers : goal.returns-in_err-taken-2-clause-gathers
returns-in_err-taken-2-clause-gathers g c =
    gathers_error g.W.Work.commands (g.W.Work.act c.args.work.now) (g.W.Work.has c.args.work.now) (g.W.Work.has c.loop-taken.work) (g.W.Work.has c.gather_some-in-loop-taken.new.work) c.args.buffered.now c.loop-taken.text.bytes.items c.gather_some-in-loop-taken.new.text.bytes.items c.loop-taken.taken
    c.loop-taken.invariant.so_far (g.W.Work.has c.gather_some-in-loop-taken.new.work) c.in_err-taken-2.field-0.0 c.from_residual-in_err-taken-2.result c.from_residual-in_err-taken-2.ensures.1
    (subst (λ a. GathersSome g.W.Work.commands a (g.W.Work.has c.loop-taken.work) (g.W.Work.has c.gather_some-in-loop-taken.new.work) (drop c.loop-taken.taken c.args.buffered.now) c.loop-taken.text.bytes.items c.gather_some-in-loop-taken.new.text.bytes.items (Err c.in_err-taken-2.field-0.0))
    c.loop-taken.invariant.kept
    (subst (λ rest. GathersSome g.W.Work.commands (g.W.Work.act c.loop-taken.work) (g.W.Work.has c.loop-taken.work) (g.W.Work.has c.gather_some-in-loop-taken.new.work) rest c.loop-taken.text.bytes.items c.gather_some-in-loop-taken.new.text.bytes.items (Err c.in_err-taken-2.field-0.0))
    (take_rest c.args.buffered.now c.loop-taken.taken) c.in_err-taken-2.ensures.gathers))

pub loop-taken-preserved : goal.loop-taken-preserved
loop-taken-preserved g c =
    let one =
    subst (λ a. GathersSome g.W.Work.commands a (g.W.Work.has c.loop-taken.work) (g.W.Work.has c.gather_some-in-loop-taken.new.work) (drop c.loop-taken.taken c.args.buffered.now) c.loop-taken.text.bytes.items c.gather_some-in-loop-taken.new.text.bytes.items (Ok c.in_ok-taken-2.field-0))
    c.loop-taken.invariant.kept
    (subst (λ rest. GathersSome g.W.Work.commands (g.W.Work.act c.loop-taken.work) (g.W.Work.has c.loop-taken.work) (g.W.Work.has c.gather_some-in-loop-taken.new.work) rest c.loop-taken.text.bytes.items c.gather_some-in-loop-taken.new.text.bytes.items (Ok c.in_ok-taken-2.field-0))
    (take_rest c.args.buffered.now c.loop-taken.taken) c.in_ok-taken-2.ensures.gathers) in
    let before = c.loop-taken.invariant.some in
    let fits = one.1 in
    let room = c.loop-taken.invariant.fits in record {
      kept = c.in_ok-taken-2.ensures.kept ∙ c.loop-taken.invariant.kept;
      some = omega (arith, before);
      fits = omega (arith, length-drop c.loop-taken.taken c.args.buffered.now, fits, room);
      so_far = gathers_more g.W.Work.commands (g.W.Work.act c.args.work.now) (g.W.Work.has c.args.work.now) (g.W.Work.has c.loop-taken.work) (g.W.Work.has c.gather_some-in-loop-taken.new.work) c.args.buffered.now c.loop-taken.text.bytes.items c.gather_some-in-loop-taken.new.text.bytes.items c.loop-taken.taken
          c.loop-taken.invariant.so_far c.in_ok-taken-2.field-0 one;
    }
