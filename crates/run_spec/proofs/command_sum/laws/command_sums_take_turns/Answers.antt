use Rattle.run_spec.proofs.command_sum.CommandSumLemmas.{in_turns}
use Rattle.run_spec.proofs.command_sum.laws.command_sums_take_turns.Goals as goal

pub returns : goal.returns
returns g c = in_turns g.A.Act.commands g.B.Act.commands c.requires.disjoint c.requires.first c.requires.second
