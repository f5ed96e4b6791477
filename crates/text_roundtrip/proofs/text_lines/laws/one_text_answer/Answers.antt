use Rattle.text_roundtrip.proofs.text_lines.TextLineLemmas.{one_text_answer}
use Rattle.text_roundtrip.proofs.text_lines.laws.one_text_answer.Goals as goal

pub returns : goal.returns
returns c = one_text_answer
