use Rattle.check_stream.proofs.mismatch_search.MismatchSearchLineLemmas.{found_line}
use Rattle.check_stream.proofs.mismatch_search.laws.found_has_line.Goals as goal

pub returns : goal.returns
returns c table limit n bytes found type_text f = found_line table limit n bytes found type_text f
