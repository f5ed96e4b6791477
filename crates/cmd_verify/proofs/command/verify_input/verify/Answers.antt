use Rattle.base_io.specs.StreamState.{change}
use Rattle.cmd_verify.proofs.command.VerifyAccountLemmas.{no_type_account}
use Rattle.cmd_verify.proofs.command.verify_input.verify.Goals as goal

pub returns-in-Ok : goal.returns-in-Ok
returns-in-Ok g c = λ arguments asks.
    let found = c.in-Ok.ensures in
    c.verify_over.ensures arguments (g.O.Opener.state c.args.files.now) (record {
      file = c.args.file.now;
      type = c.args.type_text.now;
      lines = c.args.lines;
      asks = asks;
      found = found.0;
      fetched = found.1;
      gives = found.2;
    })

pub returns-in-Err : goal.returns-in-Err
returns-in-Err g c = λ arguments asks.
    let found = c.in-Err.ensures in
    no_type_account arguments c.args.file.now c.args.type_text.now c.args.certificate.now c.args.lines
    c.args.reading asks (change (g.O.Opener.state c.args.files.now) (g.O.Opener.state c.find_type.new.files)) found.0
    found.1 c.in-Err.exit found.2 (g.S.Source.state c.args.input.now)
    (g.K.Sink.state c.args.out.now)
    (change (g.E.Sink.state c.args.err.now) (g.E.Sink.state c.report_exit.new.err))
    c.report_exit.result c.report_exit.ensures
