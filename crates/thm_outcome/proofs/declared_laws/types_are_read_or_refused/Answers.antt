use Rattle.thm_outcome.proofs.ReadTextLemmas.{type_some}
use Rattle.thm_outcome.proofs.declared_laws.types_are_read_or_refused.Goals as goal

pub returns : goal.returns
returns c = type_some c.one_outcome.ensures c.one_reading.ensures.types
