use Rattle.cmd_scan.proofs.spec.ScanSpecTableLemmas.{exact}
use Rattle.cmd_scan.proofs.spec.laws.searching_has_exit_statuses.Goals as goal

pub returns : goal.returns
returns g c = exact g.S.Searches.limit_by
