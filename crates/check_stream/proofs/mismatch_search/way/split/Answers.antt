use Rattle.std.proofs.Common.{rules, ◌<◌}
use Rattle.check_stream.proofs.mismatch_search.MismatchSearchWayLemmas.{split_unasked, split_same}
use Rattle.check_stream.proofs.mismatch_search.way.split.Goals as goal

pub returns-in-Asked : goal.returns-in-Asked
returns-in-Asked c = split_same c.args.left c.in-Asked.positions c.split_asked.result c.in-Asked.is c.split_asked.ensures

pub returns-else-count-eq0 : goal.returns-else-count-eq0
returns-else-count-eq0 c =
    let some : 0 < c.in-Unasked.count = search rules in
    split_unasked c.args.left c.in-Unasked.count c.in-Unasked.is some
