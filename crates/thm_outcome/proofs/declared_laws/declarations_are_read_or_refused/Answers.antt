use Rattle.thm_outcome.proofs.ReadTextLemmas.{declarations_some}
use Rattle.thm_outcome.proofs.declared_laws.declarations_are_read_or_refused.Goals as goal

pub returns : goal.returns
returns c = declarations_some c.one_outcome.ensures c.one_reading.ensures.files
