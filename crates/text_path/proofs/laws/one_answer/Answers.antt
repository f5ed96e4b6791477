use Rattle.text_path.proofs.PathAnswerLemmas.{one_answer}
use Rattle.text_path.proofs.laws.one_answer.Goals as goal

pub returns : goal.returns
returns c = one_answer
