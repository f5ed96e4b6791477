use Rattle.run_spec.proofs.value_commands.ValueCommandLawfulLemmas.{commands_lawful}
use Rattle.run_spec.proofs.value_commands.laws.commands_are_lawful.Goals as goal

pub returns : goal.returns
returns g c = commands_lawful g.L.Prints.language c.requires
