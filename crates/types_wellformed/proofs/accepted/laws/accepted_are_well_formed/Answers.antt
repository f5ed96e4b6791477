use Rattle.types_wellformed.proofs.accepted.AcceptedLemmas.{well_formed}
use Rattle.types_wellformed.proofs.accepted.laws.accepted_are_well_formed.Goals as goal

pub returns : goal.returns
returns c all known keeps = well_formed all known keeps
