use Rattle.cmd_scan.proofs.spec.ScanSpecLawfulLemmas.{stands_disjoint}
use Rattle.cmd_scan.proofs.spec.laws.searching_stands_disjoint.Goals as goal

pub returns : goal.returns
returns g c = stands_disjoint g.S.Searches.limit_by g.C.Act.commands
