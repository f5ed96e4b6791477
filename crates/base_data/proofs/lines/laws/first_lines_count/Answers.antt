use Rattle.base_data.proofs.lines.LawLemmas.{first_count}
use Rattle.base_data.proofs.lines.laws.first_lines_count.Goals as goal

pub returns : goal.returns
returns c = first_count
