use Rattle.cmd_scan.proofs.spec.ScanSpecLawfulLemmas.{searching_turns}
use Rattle.cmd_scan.proofs.spec.laws.searching_takes_turns.Goals as goal

pub returns : goal.returns
returns g c = searching_turns g.S.Searches.limit_by
