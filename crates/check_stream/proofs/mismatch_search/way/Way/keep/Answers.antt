use Rattle.std.proofs.Common.{◌∙◌, sym, refl}
use Rattle.check_stream.proofs.mismatch_search.MismatchSearchWayLemmas.{kept_none, kept_some}
use Rattle.check_stream.proofs.mismatch_search.way.Way.keep.Goals as goal

pub returns-then-left-eq0 : goal.returns-then-left-eq0
returns-then-left-eq0 c = λ is. kept_none c.args.self.now is (sym c.values_left-left.ensures ∙ c.if-left-eq0.true)

pub returns-then-len-capacity : goal.returns-then-len-capacity
returns-then-len-capacity c = λ is. kept_some c.args.self.now _ is refl c.push_reserved.ensures.items
