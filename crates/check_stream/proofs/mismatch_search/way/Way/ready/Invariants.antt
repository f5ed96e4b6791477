use Rattle.std.proofs.Common.{◌≡◌, vec_len}
use Rattle.check_stream.specs.mismatch_search.SearchTrail.{IsWay, way_positions}
use Rattle.check_stream.proofs.mismatch_search.way.Way.ready.Given as goal

-- The open positions are unchanged since the call.
abbrev pub invariant-waiting : goal.invariant-waiting
invariant-waiting l = IsWay l.self × (way_positions l.self ≡ way_positions l.initial.self)

abbrev pub decreases-waiting : goal.decreases-waiting
decreases-waiting l = vec_len l.self.waiting
