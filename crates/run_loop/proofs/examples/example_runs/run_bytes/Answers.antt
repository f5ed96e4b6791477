use Rattle.std.proofs.Common.{[], sym, subst}
use Rattle.base_io.specs.StreamState.{change}
use Rattle.run_loop.specs.work.Reported.{HasAccount}
use Rattle.run_loop.specs.examples.SmallCommands.{bytes_but}
use Rattle.run_loop.specs.examples.TakenItems.{HasBytes}
use Rattle.run_loop.proofs.examples.ExampleBytesLemmas.{bytes_begin}
use Rattle.run_loop.proofs.examples.example_runs.run_bytes.Goals as goal

pub run_reported-requires : goal.run_reported-requires
run_reported-requires g c = subst (λ w. HasBytes w.refused w.count [] []) (sym c.new.ensures) (bytes_begin c.args.refused)

pub returns : goal.returns
returns g c =
    subst (λ w. HasAccount bytes_but w.refused (change (g.S.Source.state c.args.input.now) (g.S.Source.state c.run_reported.new.input))
    (change (g.K.Sink.state c.args.out.now) (g.K.Sink.state c.run_reported.new.out)) (change (g.E.Sink.state c.args.err.now) (g.E.Sink.state c.run_reported.new.err)) c.run_reported.result)
    c.new.ensures c.run_reported.ensures.account
