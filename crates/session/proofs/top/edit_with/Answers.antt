use Rattle.std.specs.Borrow.{Bor}
use Rattle.base_io.specs.StreamState.{change}
use Rattle.text_path.specs.declared.edits.Script.{Script}
use Rattle.session.proofs.SessionAccountLemmas.{edits_account}
use Rattle.session.proofs.top.edit_with.Goals as goal

pub take_values-requires : goal.take_values-requires
take_values-requires g c = (c.holds.ensures, c.requires.in_time)

pub returns : goal.returns
returns g c = λ arguments before after asks.
    let borrowed : Bor Script = record { ref_ptr = (0, 0); now = c.args.script } in
    edits_account arguments c.args.requested asks.name c.args.compat c.args.reading before asks.between after asks.asks asks.found asks.fetched borrowed asks.gives
    (change (g.S.Source.state c.args.input.now) (g.S.Source.state c.take_values.new.input))
    (change (g.K.Sink.state c.args.out.now) (g.K.Sink.state c.take_values.new.out))
    (change (g.E.Sink.state c.args.err.now) (g.E.Sink.state c.take_values.new.err)) c.take_values.result c.take_values.ensures
