use Rattle.check_stream.proofs.checker.AgainLemmas.{reference_seen}
use Rattle.check_stream.proofs.checker.reread.reference_at.Goals as goal

pub returns : goal.returns
returns c = reference_seen c.args.bytes.now c.in-Token.first c.in-Shared.offset c.in-Token.len c.in-Shared.is c.in-Token.ensures.0
