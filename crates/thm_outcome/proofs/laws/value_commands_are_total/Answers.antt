use Rattle.thm_outcome.proofs.TotalValueLemmas.{values_total}
use Rattle.thm_outcome.proofs.laws.value_commands_are_total.Goals as goal

pub returns : goal.returns
returns g c = values_total g.L.Prints.language c.requires
