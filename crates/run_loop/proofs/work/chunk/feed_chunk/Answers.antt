use Rattle.std.proofs.Common.{◌<◌, ◌^◌, ◌++◌, ◌∙◌, Ok, Err, refl, length, sym, subst, arith}
use Rattle.base_io.specs.StreamState.{change}
use Rattle.run_spec.proofs.runs.LengthLemmas.{no_bytes}
use Rattle.run_loop.specs.work.Works.{FeedsSome}
use Rattle.run_loop.proofs.work.WorkChunkLemmas.{chunk_begins, chunk_room, chunk_smaller, fed_more, fed_aborts, fed_all}
use Rattle.run_loop.proofs.work.chunk.feed_chunk.Goals as goal

pub loop-rest-init : goal.loop-rest-init
loop-rest-init g c = record {
  kept = refl;
  fed = λ bytes output there. chunk_begins (g.W.Work.has c.args.work.now) bytes output c.args.chunk.now (g.K.Sink.state c.args.out.now) there;
}

pub feed_some-requires-clause-reads : goal.feed_some-requires-clause-reads
feed_some-requires-clause-reads g c = subst g.W.Work.commands.Reads (sym c.loop-rest.invariant.kept) c.requires.reads

pub feed_some-requires-clause-has : goal.feed_some-requires-clause-has
feed_some-requires-clause-has g c =
    let r = c.requires.has in
    let s = c.loop-rest.invariant.fed r.0 r.1 r.2 in
    let few = r.3 in
    let short = c.requires.short in
    (r.0 ++ s.done, r.1 ++ s.more, s.there, chunk_room g.W.Work.commands (g.W.Work.act c.args.work.now) _ _ _ _ _ _ _ s (2 ^ 63) (omega (arith, few, short)))

pub returns-in_err-taken-clause-kept : goal.returns-in_err-taken-clause-kept
returns-in_err-taken-clause-kept g c = c.in_err-taken.ensures.kept ∙ c.loop-rest.invariant.kept

pub returns-in_err-taken-clause-feeds : goal.returns-in_err-taken-clause-feeds
returns-in_err-taken-clause-feeds g c =
    fed_aborts g.W.Work.commands (g.W.Work.act c.args.work.now) _ (g.W.Work.has c.loop-rest.work) _ _ _ _ c.loop-rest.invariant.fed (g.K.Sink.state c.feed_some.new.out)
    (g.W.Work.has c.feed_some.new.work) (g.W.Work.has c.feed_some.new.work) c.in_err-taken.field-0.0 c.from_residual.result c.from_residual.ensures.1
    (subst (λ a. FeedsSome g.W.Work.commands a (g.W.Work.has c.loop-rest.work) (g.W.Work.has c.feed_some.new.work) c.loop-rest.rest.now
    (change (g.K.Sink.state c.loop-rest.out) (g.K.Sink.state c.feed_some.new.out)) (Err c.in_err-taken.field-0.0)) c.loop-rest.invariant.kept c.in_err-taken.ensures.feeds)

pub loop-rest-smaller : goal.loop-rest-smaller
loop-rest-smaller g c =
    subst (λ rest. length rest < length c.loop-rest.rest.now) (sym c.skip-rest.ensures)
    (chunk_smaller g.W.Work.commands (g.W.Work.act c.loop-rest.work) (g.W.Work.has c.loop-rest.work) (g.W.Work.has c.feed_some.new.work) c.loop-rest.rest.now
    (change (g.K.Sink.state c.loop-rest.out) (g.K.Sink.state c.feed_some.new.out)) c.in_ok-taken.taken c.in_ok-taken.ensures.feeds)

pub loop-rest-preserved : goal.loop-rest-preserved
loop-rest-preserved g c = rw c.skip-rest.ensures record {
  kept = c.in_ok-taken.ensures.kept ∙ c.loop-rest.invariant.kept;
  fed = fed_more g.W.Work.commands (g.W.Work.act c.args.work.now) _ (g.W.Work.has c.loop-rest.work) _ _ _ _ c.loop-rest.invariant.fed (g.K.Sink.state c.feed_some.new.out)
      (g.W.Work.has c.feed_some.new.work) c.in_ok-taken.taken
      (subst (λ a. FeedsSome g.W.Work.commands a (g.W.Work.has c.loop-rest.work) (g.W.Work.has c.feed_some.new.work) c.loop-rest.rest.now
      (change (g.K.Sink.state c.loop-rest.out) (g.K.Sink.state c.feed_some.new.out)) (Ok c.in_ok-taken.taken)) c.loop-rest.invariant.kept c.in_ok-taken.ensures.feeds);
}

pub returns-clause-kept : goal.returns-clause-kept
returns-clause-kept g c = c.loop-rest.invariant.kept

pub returns-clause-feeds : goal.returns-clause-feeds
returns-clause-feeds g c =
    fed_all g.W.Work.commands (g.W.Work.act c.args.work.now) _ (g.W.Work.has c.loop-rest.work) _ _ _ _ c.loop-rest.invariant.fed
    (no_bytes c.loop-rest.rest.now c.loop-rest-test.ensures)
