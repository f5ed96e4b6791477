use Rattle.cmd_scan.proofs.spec.ScanSpecLawfulLemmas.{searching_idle}
use Rattle.cmd_scan.proofs.spec.laws.searching_is_idle_elsewhere.Goals as goal

pub returns : goal.returns
returns g c = searching_idle g.S.Searches.limit_by
