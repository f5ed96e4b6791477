use Rattle.thm_outcome.proofs.ReadTextLemmas.{path_some}
use Rattle.thm_outcome.proofs.declared_laws.paths_are_read_or_refused.Goals as goal

pub returns : goal.returns
returns c = path_some c.one_answer.ensures
