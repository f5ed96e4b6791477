use Rattle.cmd_scan.proofs.spec.ReportLemmas.{reports_positions}
use Rattle.cmd_scan.proofs.spec.laws.searching_reports_positions.Goals as goal

pub returns : goal.returns
returns g c = reports_positions g.S.Searches.limit_by
