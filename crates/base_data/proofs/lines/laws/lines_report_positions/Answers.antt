use Rattle.base_data.proofs.lines.LawLemmas.{lines_report}
use Rattle.base_data.proofs.lines.laws.lines_report_positions.Goals as goal

pub returns : goal.returns
returns c = lines_report
