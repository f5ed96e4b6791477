use Rattle.cmd_scan.proofs.found_positions.FoundPositionWholeLemmas.{positions_of_all_lemma}
use Rattle.cmd_scan.proofs.found_positions.laws.positions_of_all.Goals as goal

pub returns : goal.returns
returns c = positions_of_all_lemma
