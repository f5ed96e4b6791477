use Rattle.check_stream.specs.declared.mismatch_search.way.Expectation.TheVariants as asks
use Rattle.check_stream.proofs.mismatch_search.MismatchSearchWayLemmas.{taken_first}
use Rattle.check_stream.proofs.mismatch_search.way.Way.take_type.Goals as goal

pub returns-clause-first : goal.returns-clause-first
returns-clause-first c = (taken_first c.args.self.now c.point.new.self (asks.Type c.args.ty) c.args.others 1 c.requires.is_way c.point.ensures c.requires.first).positions
