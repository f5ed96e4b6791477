use Rattle.std.proofs.Common.{◌≡◌, ◌∙◌}
use Rattle.check_stream.specs.mismatch_search.SearchTrail.{left_values}
use Rattle.check_stream.proofs.mismatch_search.MismatchSearchWayLemmas.{popped, all_done}
use Rattle.check_stream.proofs.mismatch_search.way.Way.ready.Goals as goal

pub waiting-preserved : goal.waiting-preserved
waiting-preserved c =
    let none : left_values c.waiting.self.now.left ≡ 0 = c.if-is_open.ensures in
    let p = popped c.waiting.self c.in-Some.block c.pop.new.self c.waiting.invariant.0 none c.in-Some.ensures.items in
    (p.0, p.1 ∙ c.waiting.invariant.1)

pub returns-in-None-clause-ready : goal.returns-in-None-clause-ready
returns-in-None-clause-ready c =
    let none : left_values c.waiting.self.now.left ≡ 0 = c.if-is_open.ensures in
    (all_done c.waiting.self c.pop.new.self c.waiting.invariant.0 none c.in-None.ensures.items c.in-None.ensures.cases.0).1
