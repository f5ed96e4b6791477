use Rattle.std.proofs.Common.{◌≡◌, ◌++◌}
use Rattle.std.specs.Prelude.{reverse, vec_len}
use Rattle.check_heap.proofs.check.visit_path.reversed.Given as goal

-- The path built so far, followed by the reverse of the remaining steps, is the reverse of all
-- steps.
abbrev pub invariant-loop-step : goal.invariant-loop-step
invariant-loop-step l = l.path ++ reverse l.steps.items ≡ reverse l.initial.steps.items

abbrev pub decreases-loop-step : goal.decreases-loop-step
decreases-loop-step l = vec_len l.steps
