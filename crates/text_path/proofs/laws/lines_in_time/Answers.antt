use Rattle.text_path.proofs.PathTimeLemmas.{lines_in_time}
use Rattle.text_path.proofs.laws.lines_in_time.Goals as goal

pub returns : goal.returns
returns c = lines_in_time
