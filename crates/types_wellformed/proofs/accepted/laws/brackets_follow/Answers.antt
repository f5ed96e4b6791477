use Rattle.types_wellformed.proofs.accepted.AcceptedBracketLemmas.{brackets_follow_lem}
use Rattle.types_wellformed.proofs.accepted.laws.brackets_follow.Goals as goal

pub returns : goal.returns
returns c all known plain variants hashes = brackets_follow_lem all known plain variants hashes
