use Rattle.run_spec.proofs.runs.ExampleLemmas.{outputs_unread, outputs_rest}
use Rattle.run_spec.proofs.runs.example.example_outputs.Goals as goal

pub returns-clause-unread : goal.returns-clause-unread
returns-clause-unread c = outputs_unread

pub returns-clause-rest : goal.returns-clause-rest
returns-clause-rest c = outputs_rest
