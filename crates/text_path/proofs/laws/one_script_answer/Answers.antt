use Rattle.text_path.proofs.PathScriptLemmas.{one_script_answer}
use Rattle.text_path.proofs.laws.one_script_answer.Goals as goal

pub returns : goal.returns
returns c = one_script_answer
