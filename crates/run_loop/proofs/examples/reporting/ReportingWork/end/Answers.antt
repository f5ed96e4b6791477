use Rattle.base_io.specs.StreamState.{change}
use Rattle.cli_errors.specs.declared.exit_line.Error.TheVariants as aborts
use Rattle.run_loop.proofs.work.WorkChunkLemmas.{ends_error}
use Rattle.run_loop.specs.examples.SmallCommands.{reporting}
use Rattle.run_loop.proofs.examples.ReportingLemmas.{reports, reports_part}
use Rattle.run_loop.proofs.examples.reporting.ReportingWork.end.Goals as goal

pub returns-in_err-write_all : goal.returns-in_err-write_all
returns-in_err-write_all g c =
    ends_error reporting c.args.self.now.text.now _ (change (g.K.Sink.state c.args.out.now) (g.K.Sink.state c.write_all.new.sink)) aborts.WriteFault
    c.from_residual.result c.from_residual.ensures.1
    (reports_part c.args.self.now.text.now (g.K.Sink.state c.args.out.now) (g.K.Sink.state c.write_all.new.sink) c.in_err-write_all.ensures.writes)

pub returns : goal.returns
returns g c =
    reports c.args.self.now.text.now (g.K.Sink.state c.args.out.now) (g.K.Sink.state c.write_all.new.sink) c.in_ok-write_all.ensures.writes
