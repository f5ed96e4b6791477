use Rattle.std.proofs.Common.{◌∷◌, inl, ◌∙◌, ap, arith}
use Rattle.base_io.specs.StreamState.{change}
use Rattle.cli_errors.specs.declared.exit_line.Error.TheVariants as aborts
use Rattle.run_loop.proofs.work.WorkChunkLemmas.{feeds_error}
use Rattle.run_loop.specs.examples.SmallCommands.{bytes_but}
use Rattle.run_loop.specs.examples.TakenItems.{HasBytes}
use Rattle.run_spec.proofs.runs.LengthLemmas.{prefix_byte}
use Rattle.run_loop.proofs.examples.ExampleBytesLemmas.{count_few, byte_refused, byte_fault, byte_feeds}
use Rattle.run_loop.proofs.examples.bytes_command.BytesButWork.feed.Goals as goal

pub returns-then-byte-self-clause-feeds : goal.returns-then-byte-self-clause-feeds
returns-then-byte-self-clause-feeds g c = λ reads. λ bytes output h.
    let f = prefix_byte c.args.chunk.now c.requires.some in
    inl (byte_refused c.args.self.now.refused c.args.self.now.count bytes output h c.args.chunk.now f.0 (g.K.Sink.state c.args.out.now)
    c.refused_value.result c.refused_value.ensures
    (f.1 ∙ ap (λ b. b ∷ f.0) c.if-byte-self.true))

pub returns-in_err-write_all-clause-feeds : goal.returns-in_err-write_all-clause-feeds
returns-in_err-write_all-clause-feeds g c = λ reads.
    feeds_error bytes_but c.args.self.now.refused (HasBytes c.args.self.now.refused c.args.self.now.count) (HasBytes c.args.self.now.refused c.args.self.now.count) c.args.chunk.now (change (g.K.Sink.state c.args.out.now) (g.K.Sink.state c.write_all.new.sink)) aborts.WriteFault
    c.from_residual.result c.from_residual.ensures.1
    (λ bytes output h.
    let f = prefix_byte c.args.chunk.now c.requires.some in
    byte_fault c.args.self.now.refused c.args.self.now.count bytes output h c.args.chunk.now f.0 _ (g.K.Sink.state c.args.out.now) (g.K.Sink.state c.write_all.new.sink)
    f.1 c.if-byte-self.false c.in_err-write_all.ensures.writes)

pub overflow_add-self : goal.overflow_add-self
overflow_add-self g c =
    let r = c.requires.has in
    let few = count_few c.args.self.now.refused c.args.self.now.count r.0 r.1 r.2 in
    let short = r.3 in omega (arith, few, short)

pub returns-clause-feeds : goal.returns-clause-feeds
returns-clause-feeds g c = λ reads.
    byte_feeds c.args.self.now.refused c.args.self.now.count c.args.chunk.now (g.K.Sink.state c.args.out.now) (g.K.Sink.state c.write_all.new.sink)
    c.requires.some c.if-byte-self.false c.in_ok-write_all.ensures.writes
