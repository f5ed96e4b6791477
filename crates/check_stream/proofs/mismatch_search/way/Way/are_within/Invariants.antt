use Rattle.std.proofs.Common.{◌+◌, ◌≡◌, drop}
use Rattle.check_stream.specs.mismatch_theory.PassedBut.{values_at}
use Rattle.check_stream.specs.mismatch_search.SearchTrail.{left_values, waiting_positions}
use Rattle.check_stream.proofs.mismatch_search.way.Way.are_within.Given as goal

-- The values that were counted and the values still allowed add up to the limit.
abbrev pub invariant-waiting : goal.invariant-waiting
invariant-waiting l =
    left_values l.self.now.left + values_at (waiting_positions l.self.links.items l.self.waiting.items) + l.room
    ≡ l.most + values_at (waiting_positions l.self.links.items (drop l.block-index l.self.waiting.items))
