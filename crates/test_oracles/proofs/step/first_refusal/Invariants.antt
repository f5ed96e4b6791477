use Rattle.std.proofs.Common.{◌≡◌, drop}
use Rattle.marshal_spec.specs.format.Step.{first_refusal}
use Rattle.test_oracles.specs.Step.{steps_of}
use Rattle.test_oracles.proofs.step.first_refusal.Given as goal

-- The steps before the current step are decided and do not fail.
abbrev pub invariant-loop-step : goal.invariant-loop-step
invariant-loop-step l = first_refusal l.n (steps_of l.steps) ≡ first_refusal l.n (steps_of (drop l.step-index l.steps))
