use Rattle.std.proofs.Common.{ℕ, List, subst}
use Rattle.base_io.specs.Sink.{Writes, WritesPart}
use Rattle.base_io.specs.StreamState.{change}
use Rattle.cli_errors.specs.declared.exit_line.Error.TheVariants as aborts
use Rattle.run_loop.proofs.work.WorkChunkLemmas.{ends_error}
use Rattle.run_types.specs.Language.{declared_types}
use Rattle.cmd_gen.specs.spec.GenSpec.{gen_spec}
use Rattle.cmd_gen.specs.command.OutputLines.{output_of, making_of, HasNothing}
use Rattle.cmd_gen.proofs.command.MakingLemmas.{ends_line, ends_part}
use Rattle.cmd_gen.proofs.command.making.GeneratingWork.end.Goals as goal

pub returns-in_err-write_all : goal.returns-in_err-write_all
returns-in_err-write_all g c =
    let n = c.args.self.now.number in
    let count = c.args.self.now.count in
    let r = c.args.self.now.requested.now in
    let out = change (g.K.Sink.state c.args.out.now) (g.K.Sink.state c.write_all.new.sink) in
    ends_error (gen_spec declared_types) (making_of n count r) (HasNothing n count r) out
    aborts.WriteFault c.from_residual-in_err-write_all.result
    c.from_residual-in_err-write_all.ensures.1
    (ends_part n count r (output_of c.in_ok-line.line) c.in_ok-line.ensures out
    (subst (λ (b : List ℕ). WritesPart out b) c.as_slice.ensures.value c.in_err-write_all.ensures.writes))

pub returns : goal.returns
returns g c =
    let n = c.args.self.now.number in
    let count = c.args.self.now.count in
    let r = c.args.self.now.requested.now in
    let out = change (g.K.Sink.state c.args.out.now) (g.K.Sink.state c.write_all.new.sink) in
    ends_line n count r (output_of c.in_ok-line.line) c.in_ok-line.ensures out
    (subst (λ (b : List ℕ). Writes out b) c.as_slice.ensures.value c.in_ok-write_all.ensures.writes)
