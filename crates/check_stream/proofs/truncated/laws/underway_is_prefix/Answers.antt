use Rattle.check_stream.proofs.truncated.TruncatedPrefixLemmas.{underway_is_prefix}
use Rattle.check_stream.proofs.truncated.laws.underway_is_prefix.Goals as goal

pub returns : goal.returns
returns c = underway_is_prefix
