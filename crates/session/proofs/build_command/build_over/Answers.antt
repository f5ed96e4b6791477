use Rattle.std.proofs.Common.{subst}
use Rattle.base_io.specs.StreamState.{change}
use Rattle.run_loop.specs.work.Reported.{HasAccount}
use Rattle.run_types.specs.RequestedTexts.{type_over}
use Rattle.session.specs.All.{on_texts}
use Rattle.session.proofs.build_command.build_over.Goals as goal

pub returns : goal.returns
returns g c =
    subst (λ requested. HasAccount on_texts (type_over requested.now) (change (g.S.Source.state c.args.input.now) (g.S.Source.state c.run_reported.new.input))
    (change (g.K.Sink.state c.args.out.now) (g.K.Sink.state c.run_reported.new.out)) (change (g.E.Sink.state c.args.err.now) (g.E.Sink.state c.run_reported.new.err)) c.run_reported.result)
    c.new.ensures.requested c.run_reported.ensures.account
