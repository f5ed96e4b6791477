use Rattle.std.proofs.Common.{◌+◌, ◌≡◌, drop}
use Rattle.check_stream.specs.theory.AskedNeeds.{values_in}
use Rattle.check_stream.specs.checker.OpenPositions.{open_needs, waiting_needs}
use Rattle.check_stream.proofs.checker.open_positions.OpenPositions.are_within.Given as goal

-- The values counted so far and the values still allowed add up to the limit.
abbrev pub invariant-waiting : goal.invariant-waiting
invariant-waiting l =
    values_in (open_needs l.self.now) + values_in (waiting_needs l.self.waiting.items) + l.room
    ≡ l.most + values_in (waiting_needs (drop l.block-index l.self.waiting.items))
