use Rattle.thm_outcome.proofs.ReadTextLemmas.{script_some}
use Rattle.thm_outcome.proofs.declared_laws.scripts_are_read_or_refused.Goals as goal

pub returns : goal.returns
returns c = script_some c.one_script_answer.ensures
