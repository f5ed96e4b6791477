use Rattle.cmd_scan.proofs.spec.ScanSpecLawfulLemmas.{searching_lawful}
use Rattle.cmd_scan.proofs.spec.laws.searching_is_lawful.Goals as goal

pub returns : goal.returns
returns g c = searching_lawful g.S.Searches.limit_by
