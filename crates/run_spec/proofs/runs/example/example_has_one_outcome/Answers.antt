use Rattle.run_spec.proofs.runs.ExampleLemmas.{lawful}
use Rattle.run_spec.proofs.runs.example.example_has_one_outcome.Goals as goal

pub lawful_commands-requires : goal.lawful_commands-requires
lawful_commands-requires c = lawful

pub returns : goal.returns
returns c = c.lawful_commands.ensures.outcome
