use Rattle.std.proofs.Common.{rules, vec_len, ◌≡◌, ◌==◌, ◌<◌, length, ◌∙◌, ap, subst}
use Rattle.cli_spec.specs.declared.exit.Exit.TheVariants.{Memory as out_of_memory}
use Rattle.base_io.specs.Sink.{Writes, WritesPart}
use Rattle.base_io.specs.StreamState.{change}
use Rattle.cli_errors.specs.declared.exit_line.Error.TheVariants as aborts
use Rattle.run_spec.proofs.runs.LengthLemmas.{no_bytes}
use Rattle.run_loop.proofs.work.WorkChunkLemmas.{ends_error}
use Rattle.run_loop.specs.examples.SmallCommands.{lines}
use Rattle.run_loop.proofs.examples.LinesLemmas.{some_left, lines_end_none, lines_end_some, lines_end_memory, lines_end_fault}
use Rattle.run_loop.proofs.examples.lines_command.LinesWork.end.Goals as goal

pub returns-then-is_empty : goal.returns-then-is_empty
returns-then-is_empty g c = λ bytes output h.
    let len : vec_len c.args.self.now.rest ≡ length c.args.self.now.rest.items = search rules in
    lines_end_none c.args.self.now.rest.items bytes output h (g.K.Sink.state c.args.out.now) (no_bytes c.args.self.now.rest.items (c.if-is_empty.ensures ∙ ap (λ n. n == 0) len))

pub returns-in_err-keep : goal.returns-in_err-keep
returns-in_err-keep g c =
    ends_error lines tt _ (change (g.K.Sink.state c.args.out.now) (g.K.Sink.state c.args.out.now)) (aborts.Exit out_of_memory) c.from_residual.result c.from_residual.ensures.1
    (λ bytes output h. lines_end_memory c.args.self.now.rest.items bytes output h (g.K.Sink.state c.args.out.now))

pub returns-in_err-write_all : goal.returns-in_err-write_all
returns-in_err-write_all g c =
    let len : vec_len c.args.self.now.rest ≡ length c.args.self.now.rest.items = search rules in
    let some : 0 < length c.args.self.now.rest.items = some_left c.args.self.now.rest.items (c.if-is_empty.ensures ∙ ap (λ n. n == 0) len) in
    ends_error lines tt _ (change (g.K.Sink.state c.args.out.now) (g.K.Sink.state c.write_all.new.sink)) aborts.WriteFault
    c.from_residual-in_err-write_all.result c.from_residual-in_err-write_all.ensures.1
    (λ bytes output h. lines_end_fault c.args.self.now.rest.items bytes output h (g.K.Sink.state c.args.out.now) (g.K.Sink.state c.write_all.new.sink) some
    (subst (λ t. WritesPart (change (g.K.Sink.state c.args.out.now) (g.K.Sink.state c.write_all.new.sink)) t) (c.as_slice.ensures.value ∙ c.in_ok-keep.ensures) c.in_err-write_all.ensures.writes))

pub returns : goal.returns
returns g c = λ bytes output h.
    let len : vec_len c.args.self.now.rest ≡ length c.args.self.now.rest.items = search rules in
    let some : 0 < length c.args.self.now.rest.items = some_left c.args.self.now.rest.items (c.if-is_empty.ensures ∙ ap (λ n. n == 0) len) in
    lines_end_some c.args.self.now.rest.items bytes output h (g.K.Sink.state c.args.out.now) (g.K.Sink.state c.write_all.new.sink) some
    (subst (λ t. Writes (change (g.K.Sink.state c.args.out.now) (g.K.Sink.state c.write_all.new.sink)) t) (c.as_slice.ensures.value ∙ c.in_ok-keep.ensures) c.in_ok-write_all.ensures.writes)
