use Rattle.base_io.specs.StreamState.{change}
use Rattle.cmd_certify.specs.command.CertifyProgress.{certified_after}
use Rattle.cmd_certify.proofs.command.CertifyAccountLemmas.{memory_account}
use Rattle.cmd_certify.proofs.command.certify_input.certify_by.Goals as goal

pub certify_values-requires : goal.certify_values-requires
certify_values-requires g c = record { least_faults = rw c.table.ensures.same at c.in-Ok.ensures }

pub returns-in-Ok : goal.returns-in-Ok
returns-in-Ok g c = c.certify_values.ensures

pub returns-in-Err : goal.returns-in-Err
returns-in-Err g c =
    memory_account (certified_after c.args.requested.now c.args.reading) (g.S.Source.state c.args.input.now)
    (g.K.Sink.state c.args.out.now)
    (change (g.E.Sink.state c.args.err.now) (g.E.Sink.state c.report_exit.new.err))
    c.report_exit.result c.report_exit.ensures
