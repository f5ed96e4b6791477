use Rattle.std.proofs.Common.{◌∙◌, take, Ok, Err, refl, sym, subst, arith}
use Rattle.std.proofs.lemmas.List.{length-take}
use Rattle.base_io.specs.StreamState.{change}
use Rattle.run_spec.specs.runs.Account.{HaveNoExit}
use Rattle.run_loop.specs.work.Works.{ItemsStay, FeedsAll, EndsAt}
use Rattle.run_loop.proofs.work.WorkRunLemmas.{run_begins, run_too_long, run_fault, run_ends, run_more, run_aborts}
use Rattle.run_loop.proofs.work.input_loop.take_chunks.Goals as goal

pub loop-taken-init : goal.loop-taken-init
loop-taken-init g c = record {
  room = c.requires.room;
  kept = refl;
  so_far = run_begins (g.W.Work.has c.args.work.now) (g.S.Source.state c.args.input.now) (g.K.Sink.state c.args.out.now) c.requires.has;
}

pub returns-in_default : goal.returns-in_default
returns-in_default g c =
    let s = c.loop-taken.invariant.so_far in
    let holds = subst (λ a. HaveNoExit g.W.Work.commands a s.bytes s.output) c.loop-taken.invariant.kept (c.laws.ensures.holds s.bytes s.output s.there) in
    run_fault g.W.Work.commands _ c.requires.reads _ _ _ _ _ _ s (g.S.Source.state c.take.new.self) c.take.new.buf (omega (arith, c.loop-taken-test.true)) holds
    c.in_default.field-0 c.in_default.ensures

pub end-requires : goal.end-requires
end-requires g c =
    let s = c.loop-taken.invariant.so_far in
    let counted = s.counted in
    (s.bytes, s.output, s.there, omega (arith, counted, c.loop-taken-test.true))

pub returns-then-n-eq0 : goal.returns-then-n-eq0
returns-then-n-eq0 g c =
    let s = c.loop-taken.invariant.so_far in
    run_ends g.W.Work.commands (g.W.Work.act c.args.work.now) c.requires.reads _ _ _ _ _ _ s (g.S.Source.state c.take.new.self) c.take.new.buf (omega (arith, c.loop-taken-test.true))
    (g.K.Sink.state c.end.new.out) c.end.result (omega (arith, c.take.auto.buf, c.loop-taken.invariant.room)) (rw c.if-n-eq0.true at c.in-Ok.ensures)
    (subst (λ a. EndsAt g.W.Work.commands a (g.W.Work.has c.loop-taken.work) (change (g.K.Sink.state c.loop-taken.out) (g.K.Sink.state c.end.new.out)) c.end.result) c.loop-taken.invariant.kept c.end.ensures)

pub feed_chunk-requires-clause-short : goal.feed_chunk-requires-clause-short
feed_chunk-requires-clause-short g c =
    let fits = c.in-Ok.ensures.within in omega (arith, length-take c.in-Ok.n c.take.new.buf, fits, c.take.auto.buf, c.loop-taken.invariant.room)

pub feed_chunk-requires-clause-reads : goal.feed_chunk-requires-clause-reads
feed_chunk-requires-clause-reads g c = subst g.W.Work.commands.Reads (sym c.loop-taken.invariant.kept) c.requires.reads

pub feed_chunk-requires-clause-has : goal.feed_chunk-requires-clause-has
feed_chunk-requires-clause-has g c =
    let s = c.loop-taken.invariant.so_far in
    let counted = s.counted in
    (s.bytes, s.output, s.there, omega (arith, counted, c.loop-taken-test.true))

pub returns-in_err-feed_chunk : goal.returns-in_err-feed_chunk
returns-in_err-feed_chunk g c =
    let s = c.loop-taken.invariant.so_far in
    run_aborts g.W.Work.commands (g.W.Work.act c.args.work.now) c.requires.reads _ _ _ _ _ _ s (g.S.Source.state c.take.new.self) c.take.new.buf (omega (arith, c.loop-taken-test.true))
    (omega (arith, c.take.auto.buf, c.loop-taken.invariant.room)) c.in-Ok.n (omega (arith, c.if-n-eq0.false)) c.in-Ok.ensures.within c.in-Ok.ensures c.in_err-feed_chunk.ensures.are_bytes (g.K.Sink.state c.feed_chunk.new.out)
    (subst (λ a. ItemsStay g.W.Work.commands a) c.loop-taken.invariant.kept c.laws.ensures.stay)
    (g.W.Work.has c.feed_chunk.new.work) c.in_err-feed_chunk.field-0.0 c.from_residual.result c.from_residual.ensures.1
    (subst (λ a. FeedsAll g.W.Work.commands a {U = Unit {0}} (g.W.Work.has c.loop-taken.work) (g.W.Work.has c.feed_chunk.new.work) (take c.in-Ok.n c.take.new.buf)
    (change (g.K.Sink.state c.loop-taken.out) (g.K.Sink.state c.feed_chunk.new.out)) (Err c.in_err-feed_chunk.field-0.0)) c.loop-taken.invariant.kept c.in_err-feed_chunk.ensures.feeds)

pub loop-taken-preserved : goal.loop-taken-preserved
loop-taken-preserved g c =
    let s = c.loop-taken.invariant.so_far in record {
      room = c.take.auto.buf ∙ c.loop-taken.invariant.room;
      kept = c.in_ok-feed_chunk.ensures.kept ∙ c.loop-taken.invariant.kept;
      so_far = run_more g.W.Work.commands (g.W.Work.act c.args.work.now) c.requires.reads _ _ _ _ _ _ s (g.S.Source.state c.take.new.self) c.take.new.buf (omega (arith, c.loop-taken-test.true))
          (omega (arith, c.take.auto.buf, c.loop-taken.invariant.room)) c.in-Ok.n (omega (arith, c.if-n-eq0.false)) c.in-Ok.ensures.within c.in-Ok.ensures c.in_ok-feed_chunk.ensures.are_bytes (g.K.Sink.state c.feed_chunk.new.out)
          (g.W.Work.has c.feed_chunk.new.work)
          (subst (λ a. FeedsAll g.W.Work.commands a {U = Unit {0}} (g.W.Work.has c.loop-taken.work) (g.W.Work.has c.feed_chunk.new.work) (take c.in-Ok.n c.take.new.buf)
          (change (g.K.Sink.state c.loop-taken.out) (g.K.Sink.state c.feed_chunk.new.out)) (Ok tt)) c.loop-taken.invariant.kept c.in_ok-feed_chunk.ensures.feeds);
    }

pub returns : goal.returns
returns g c =
    let s = c.loop-taken.invariant.so_far in
    let holds = subst (λ a. HaveNoExit g.W.Work.commands a s.bytes s.output) c.loop-taken.invariant.kept (c.laws-2.ensures.holds s.bytes s.output s.there) in
    run_too_long g.W.Work.commands _ c.requires.reads _ _ _ _ _ _ s holds (omega (arith, c.loop-taken-test.false))
