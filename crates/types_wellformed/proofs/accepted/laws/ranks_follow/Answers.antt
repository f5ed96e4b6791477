use Rattle.types_wellformed.proofs.accepted.AcceptedRankLemmas.{ranks_follow_lem}
use Rattle.types_wellformed.proofs.accepted.laws.ranks_follow.Goals as goal

pub returns : goal.returns
returns c all reported once known acyclic = ranks_follow_lem all reported once known acyclic
