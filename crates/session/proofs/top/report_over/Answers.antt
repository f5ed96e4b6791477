use Rattle.std.specs.Borrow.{Bor}
use Rattle.base_io.specs.StreamState.{change}
use Rattle.run_types.specs.declared.requested.Prepared.{Prepared}
use Rattle.session.proofs.SessionAccountLemmas.{known_account}
use Rattle.session.proofs.top.report_over.Goals as goal

pub returns : goal.returns
returns g c = λ arguments files asks.
    let borrowed : Bor Prepared = record { ref_ptr = (0, 0); now = c.args.requested } in
    known_account arguments asks.file asks.type c.args.query c.args.reading asks.asks files asks.found asks.fetched borrowed asks.gives
    (change (g.S.Source.state c.args.input.now) (g.S.Source.state c.take_values.new.input))
    (change (g.K.Sink.state c.args.out.now) (g.K.Sink.state c.take_values.new.out))
    (change (g.E.Sink.state c.args.err.now) (g.E.Sink.state c.take_values.new.err)) c.take_values.result c.take_values.ensures
