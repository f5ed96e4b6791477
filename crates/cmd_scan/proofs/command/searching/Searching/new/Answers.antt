use Rattle.cmd_scan.proofs.command.ScanCommandSearchLemmas.{begins}
use Rattle.cmd_scan.proofs.command.searching.Searching.new.Goals as goal

pub returns-clause-has : goal.returns-clause-has
returns-clause-has g c =
    begins g.S.Searches.limit_by c.args.limit c.new.result.items c.new-2.result
    c.new.ensures.items c.new-2.ensures.leads
