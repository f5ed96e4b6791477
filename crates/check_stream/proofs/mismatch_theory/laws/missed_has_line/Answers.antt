use Rattle.check_stream.proofs.mismatch_theory.MismatchLineLemmas.{missed_has_line}
use Rattle.check_stream.proofs.mismatch_theory.laws.missed_has_line.Goals as goal

pub returns : goal.returns
returns c table graph root missed type_text is = missed_has_line table graph root missed type_text is
