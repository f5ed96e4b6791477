use Rattle.cli_spec.specs.declared.exit.Exit.TheVariants.{Memory as out_of_memory}
use Rattle.base_io.specs.StreamState.{change}
use Rattle.cli_errors.specs.declared.exit_line.Error.TheVariants as aborts
use Rattle.run_loop.proofs.work.WorkChunkLemmas.{feeds_error}
use Rattle.run_loop.specs.examples.SmallCommands.{lines}
use Rattle.run_loop.specs.examples.TakenItems.{HasLines}
use Rattle.run_loop.proofs.examples.LinesLemmas.{lines_memory, line_more, line_feeds, line_feeds_fault}
use Rattle.run_loop.proofs.examples.lines_command.LinesWork.feed.Goals as goal

pub returns-in_err-keep-clause-feeds : goal.returns-in_err-keep-clause-feeds
returns-in_err-keep-clause-feeds g c = λ reads.
    feeds_error lines tt (HasLines c.args.self.now.rest.items) (HasLines c.keep.new.line.items) c.args.chunk.now (change (g.K.Sink.state c.args.out.now) (g.K.Sink.state c.args.out.now)) (aborts.Exit out_of_memory)
    c.from_residual.result c.from_residual.ensures.1
    (λ bytes output h. lines_memory c.args.self.now.rest.items bytes output h c.args.chunk.now (g.K.Sink.state c.args.out.now))

pub returns-then-byte-ne-LINE_FEED-clause-feeds : goal.returns-then-byte-ne-LINE_FEED-clause-feeds
returns-then-byte-ne-LINE_FEED-clause-feeds g c = λ reads.
    line_more c.args.self.now.rest.items c.keep.new.line.items c.args.chunk.now c.requires.some c.in_ok-keep.ensures (g.K.Sink.state c.args.out.now) c.if-byte-ne-LINE_FEED.true

pub returns-in_err-write_all-clause-feeds : goal.returns-in_err-write_all-clause-feeds
returns-in_err-write_all-clause-feeds g c = λ reads.
    feeds_error lines tt (HasLines c.args.self.now.rest.items) (HasLines c.keep.new.line.items) c.args.chunk.now (change (g.K.Sink.state c.args.out.now) (g.K.Sink.state c.write_all.new.sink)) aborts.WriteFault
    c.from_residual-in_err-write_all.result c.from_residual-in_err-write_all.ensures.1
    (line_feeds_fault c.args.self.now.rest.items c.keep.new.line.items c.args.chunk.now c.requires.some c.in_ok-keep.ensures c.if-byte-ne-LINE_FEED.false
    c.as_slice.result.now c.as_slice.ensures.value (g.K.Sink.state c.args.out.now) (g.K.Sink.state c.write_all.new.sink) c.in_err-write_all.ensures.writes)

pub returns-clause-feeds : goal.returns-clause-feeds
returns-clause-feeds g c = λ reads.
    line_feeds c.args.self.now.rest.items c.keep.new.line.items c.args.chunk.now c.requires.some c.in_ok-keep.ensures c.if-byte-ne-LINE_FEED.false
    c.as_slice.result.now c.as_slice.ensures.value c.clear.new.self.items c.clear.ensures.items (g.K.Sink.state c.args.out.now) (g.K.Sink.state c.write_all.new.sink) c.in_ok-write_all.ensures.writes
