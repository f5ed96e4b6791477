use Rattle.run_spec.proofs.command_sum.CommandSumLemmas.{lawful}
use Rattle.run_spec.proofs.command_sum.laws.command_sums_are_lawful.Goals as goal

pub returns : goal.returns
returns g c = lawful g.A.Act.commands g.B.Act.commands c.requires.disjoint c.requires.first c.requires.second
