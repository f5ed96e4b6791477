use Rattle.types_wellformed.proofs.accepted.AcceptedNameLemmas.{names_follow_lem}
use Rattle.types_wellformed.proofs.accepted.laws.names_follow.Goals as goal

pub returns : goal.returns
returns c all reported once known fits bound = names_follow_lem all reported once known fits bound
