use Rattle.types_theory.proofs.typing.TypingStepLemmas.{steps_are_few}
use Rattle.types_theory.proofs.typing.laws.checks_take_few_steps.Goals as goal

pub returns : goal.returns
returns c table graph entries all = steps_are_few table graph entries all
