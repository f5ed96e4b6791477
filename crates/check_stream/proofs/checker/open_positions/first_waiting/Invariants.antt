use Rattle.std.proofs.Common.{◌≡◌, vec_len}
use Rattle.check_stream.specs.checker.OpenPositions.{waiting_needs}
use Rattle.check_stream.proofs.checker.open_positions.first_waiting.Given as goal

-- The requirements of the positions on the stack are unchanged since the call.
abbrev pub invariant-waiting : goal.invariant-waiting
invariant-waiting l = waiting_needs l.waiting.items ≡ waiting_needs l.initial.waiting.items

abbrev pub decreases-waiting : goal.decreases-waiting
decreases-waiting l = vec_len l.waiting
