use Rattle.cmd_scan.proofs.found_positions.FoundPositionWholeLemmas.{one_list_lemma}
use Rattle.cmd_scan.proofs.found_positions.laws.one_list.Goals as goal

pub returns : goal.returns
returns c = one_list_lemma
