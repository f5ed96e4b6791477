use Rattle.cli_spec.specs.Outcome.{asked_type}
use Rattle.base_io.specs.StreamState.{change}
use Rattle.session.proofs.SessionAccountLemmas.{type_account}
use Rattle.session.proofs.top.announce.Goals as goal

pub returns-in-Ok : goal.returns-in-Ok
returns-in-Ok g c = λ arguments asks.
    let found = c.in-Ok.ensures in
    c.report_over.ensures arguments (change (g.O.Opener.state c.args.files.now) (g.O.Opener.state c.find_type.new.files)) (record {
      file = c.args.file.now;
      type = asked_type c.args.type_text.now c.args.lines;
      asks = asks;
      found = found.0;
      fetched = found.1;
      gives = found.2;
    })

pub returns-in-Err : goal.returns-in-Err
returns-in-Err g c = λ arguments asks.
    let found = c.in-Err.ensures in
    type_account arguments c.args.file.now (asked_type c.args.type_text.now c.args.lines) c.args.query c.args.reading asks
    (change (g.O.Opener.state c.args.files.now) (g.O.Opener.state c.find_type.new.files))
    found.0 found.1 c.in-Err.exit found.2
    (g.S.Source.state c.args.input.now) (g.K.Sink.state c.args.out.now)
    (change (g.E.Sink.state c.args.err.now) (g.E.Sink.state c.report_exit.new.err)) c.report_exit.result c.report_exit.ensures
