use Rattle.std.proofs.Common.{refl}
use Rattle.check_stream.proofs.mismatch_search.MismatchSearchWayLemmas.{kept_some}
use Rattle.check_stream.proofs.mismatch_search.way.Way.keep_more.Goals as goal

pub returns : goal.returns
returns c = λ is. kept_some c.args.self.now _ is refl c.in_ok-push.ensures.items
