use Rattle.run_spec.proofs.runs.ExampleLemmas.{lawful, in_turns}
use Rattle.run_spec.proofs.runs.example.example_has_run_spec.Goals as goal

pub promised-requires : goal.promised-requires
promised-requires c = lawful

pub run_spec_of_commands-requires : goal.run_spec_of_commands-requires
run_spec_of_commands-requires c = lawful

pub files_in_turns-requires : goal.files_in_turns-requires
files_in_turns-requires c = record { lawful = lawful; turns = in_turns }
