use Rattle.base_io.specs.StreamState.{change}
use Rattle.cmd_verify.proofs.command.VerifyAccountLemmas.{no_sections_account, sections_account}
use Rattle.cmd_verify.proofs.command.verify_input.verify_by.Goals as goal

pub returns-in-Ok : goal.returns-in-Ok
returns-in-Ok g c = λ arguments before asks.
    let found = c.in-Ok.ensures in
    sections_account arguments c.args.requested.now c.args.certificate.now c.args.reading before
    (g.O.Opener.state c.args.files.now) (g.O.Opener.state c.find_certificate.new.files) asks found.0
    found.1 c.as_slice.result.now (rw (← c.as_slice.ensures) at found.2)
    (change (g.S.Source.state c.args.input.now) (g.S.Source.state c.verify_values.new.input))
    (change (g.K.Sink.state c.args.out.now) (g.K.Sink.state c.verify_values.new.out))
    (change (g.E.Sink.state c.args.err.now) (g.E.Sink.state c.verify_values.new.err))
    c.verify_values.result c.verify_values.ensures

pub returns-in-Err : goal.returns-in-Err
returns-in-Err g c = λ arguments before asks.
    let found = c.in-Err.ensures in
    no_sections_account arguments c.args.requested.now c.args.certificate.now c.args.reading before
    (g.O.Opener.state c.args.files.now) (g.O.Opener.state c.find_certificate.new.files) asks found.0
    found.1 c.in-Err.exit found.2 (g.S.Source.state c.args.input.now)
    (g.K.Sink.state c.args.out.now)
    (change (g.E.Sink.state c.args.err.now) (g.E.Sink.state c.report_exit.new.err))
    c.report_exit.result c.report_exit.ensures
