-- The steps of the definitions, and the location of a token.
use Rattle.std.specs.Prelude.{ℕ, Bool, nat_lt, List, map}
use Rattle.marshal_spec.specs.format.Step.{Step as Defined, step, Context as Standing, nat_ne}
use Rattle.test_oracles.specs.declared.step.Step.{Step}
use Rattle.test_oracles.specs.declared.context.Context.{Context}
use Rattle.test_oracles.specs.declared.step.Comparison.{Comparison}
use Rattle.test_oracles.specs.declared.step.Comparison.TheVariants.{Above, Other}
use Rattle.test_oracles.specs.Refusal.{refusal_in}
use Rattle.test_oracles.specs.Sums.{sums_in}

-- The step of the definitions, with its refusal.
abbrev pub step_of : Step → Defined
step_of s = step s.ends (refusal_in s.refusal)

abbrev pub steps_of : List Step → List Defined
steps_of steps = map step_of steps

-- The location of a token.
abbrev pub context_of : Context → Standing
context_of c = record { head = c.head; start = c.start; taken = c.taken; sums = sums_in c.sums }

-- How a number that was found is compared with the number that the header states.
abbrev pub differ : Comparison → ℕ → ℕ → Bool
differ Above stated found = nat_lt stated found
differ Other stated found = nat_ne stated found
