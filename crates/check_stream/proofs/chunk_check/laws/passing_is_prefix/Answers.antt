use Rattle.check_stream.proofs.chunk_check.LawLemmas.{passing_is_prefix}
use Rattle.check_stream.proofs.chunk_check.laws.passing_is_prefix.Goals as goal

pub returns : goal.returns
returns c = passing_is_prefix
