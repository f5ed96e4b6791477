use Rattle.check_stream.proofs.mismatch_search.MismatchSearchWayLemmas.{taken_first}
use Rattle.check_stream.proofs.mismatch_search.way.Way.take.Goals as goal

pub returns-clause-first : goal.returns-clause-first
returns-clause-first c = (taken_first c.args.self.now c.point.new.self c.in-Some.asked c.in-Some.others c.in-Some.values c.requires.is_way c.point.ensures c.in-Some.ensures).positions

pub returns-clause-hash : goal.returns-clause-hash
returns-clause-hash c = (taken_first c.args.self.now c.point.new.self c.in-Some.asked c.in-Some.others c.in-Some.values c.requires.is_way c.point.ensures c.in-Some.ensures).hash
