use Rattle.std.proofs.Common.{◌∙◌, subst}
use Rattle.base_io.specs.Sink.{Writes, WritesPart}
use Rattle.base_io.specs.StreamState.{change}
use Rattle.run_loop.proofs.work.WorkGatherLemmas.{some_written, some_broken}
use Rattle.run_loop.proofs.work.gathered_output.feed_some.Goals as goal

pub returns-in-Ok-clause-feeds : goal.returns-in-Ok-clause-feeds
returns-in-Ok-clause-feeds g c =
    some_written g.W.Work.commands (g.W.Work.act c.args.work.now) _ _ c.args.buffered.now c.gather-gathered.new.text.bytes.items (g.K.Sink.state c.args.out.now) (g.K.Sink.state c.write_all.new.sink)
    c.gather-gathered.result c.gather-gathered.ensures.gathers
    (subst (λ t. Writes (change (g.K.Sink.state c.args.out.now) (g.K.Sink.state c.write_all.new.sink)) t) c.as_slice.ensures.value c.in-Ok.ensures.writes)

pub returns-clause-feeds : goal.returns-clause-feeds
returns-clause-feeds g c =
    some_broken g.W.Work.commands (g.W.Work.act c.args.work.now) _ _ c.args.buffered.now c.gather-gathered.new.text.bytes.items (g.K.Sink.state c.args.out.now) (g.K.Sink.state c.write_all.new.sink)
    c.gather-gathered.result c.gather-gathered.ensures.gathers (λ none. let ok = c.in-Err.ensures.nothing (c.as_slice.ensures.value ∙ none) in cc ok)
    (subst (λ t. WritesPart (change (g.K.Sink.state c.args.out.now) (g.K.Sink.state c.write_all.new.sink)) t) c.as_slice.ensures.value c.in-Err.ensures.writes)
