use Rattle.run_spec.proofs.value_commands.ValueCommandTurnLemmas.{in_turns}
use Rattle.run_spec.proofs.value_commands.laws.commands_take_turns.Goals as goal

pub returns : goal.returns
returns g c = in_turns g.L.Prints.language c.requires
