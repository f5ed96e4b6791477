use Rattle.std.proofs.Common.{subst}
use Rattle.base_io.specs.StreamState.{change}
use Rattle.cmd_scan.specs.spec.Searching.{searching}
use Rattle.cmd_scan.proofs.command.ScanCommandAccountLemmas.{search_account}
use Rattle.run_loop.specs.work.Reported.{HasAccount}
use Rattle.cmd_scan.proofs.command.search_run.search_input.Goals as goal

pub returns : goal.returns
returns g c = λ words request asks is files.
    let input = change (g.I.Source.state c.args.input.now) (g.I.Source.state c.run_reported.new.input) in
    let out = change (g.K.Sink.state c.args.out.now) (g.K.Sink.state c.run_reported.new.out) in
    let err = change (g.E.Sink.state c.args.err.now) (g.E.Sink.state c.run_reported.new.err) in
    search_account g.S.Searches.limit_by words files request c.args.limit asks is input out err
    c.run_reported.result
    (subst (λ l. HasAccount (searching g.S.Searches.limit_by) l input out err c.run_reported.result)
    c.new-work.ensures.limit c.run_reported.ensures.account)
