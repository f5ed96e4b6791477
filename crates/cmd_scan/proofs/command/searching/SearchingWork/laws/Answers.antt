use Rattle.cmd_scan.proofs.command.ScanCommandSearchLemmas.{holds, stretches_stay}
use Rattle.cmd_scan.proofs.command.searching.SearchingWork.laws.Goals as goal

pub returns-clause-holds : goal.returns-clause-holds
returns-clause-holds g c = λ bytes output h.
    let w = c.args.self.now in
    holds g.S.Searches.limit_by w.limit w.held.items w.reader w.at bytes output h

pub returns-clause-stay : goal.returns-clause-stay
returns-clause-stay g c = stretches_stay g.S.Searches.limit_by c.args.self.now.limit
