use Rattle.base_io.specs.StreamState.{change}
use Rattle.session.proofs.SessionTextLemmas.{no_type_account, texts_account}
use Rattle.session.proofs.build_command.build.Goals as goal

pub returns-in-Ok : goal.returns-in-Ok
returns-in-Ok g c = λ arguments asks.
    let found = c.in-Ok.ensures in
    texts_account arguments c.args.file.now c.args.type_text.now c.args.lines c.args.decimal asks
    (change (g.O.Opener.state c.args.files.now) (g.O.Opener.state c.find_type.new.files))
    found.0 found.1 c.in-Ok.requested found.2
    (change (g.S.Source.state c.args.input.now) (g.S.Source.state c.build_over.new.input))
    (change (g.K.Sink.state c.args.out.now) (g.K.Sink.state c.build_over.new.out))
    (change (g.E.Sink.state c.args.err.now) (g.E.Sink.state c.build_over.new.err))
    c.build_over.result c.build_over.ensures

pub returns-in-Err : goal.returns-in-Err
returns-in-Err g c = λ arguments asks.
    let found = c.in-Err.ensures in
    no_type_account arguments c.args.file.now c.args.type_text.now c.args.lines c.args.decimal asks
    (change (g.O.Opener.state c.args.files.now) (g.O.Opener.state c.find_type.new.files))
    found.0 found.1 c.in-Err.exit found.2
    (g.S.Source.state c.args.input.now) (g.K.Sink.state c.args.out.now)
    (change (g.E.Sink.state c.args.err.now) (g.E.Sink.state c.report_exit.new.err))
    c.report_exit.result c.report_exit.ensures
