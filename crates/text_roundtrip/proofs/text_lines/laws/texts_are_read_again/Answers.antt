use Rattle.text_roundtrip.proofs.text_lines.TextLineTableLemmas.{texts_are_read_again}
use Rattle.text_roundtrip.proofs.text_lines.laws.texts_are_read_again.Goals as goal

pub returns : goal.returns
returns c = texts_are_read_again
