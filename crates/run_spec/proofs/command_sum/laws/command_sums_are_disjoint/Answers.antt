use Rattle.run_spec.proofs.command_sum.CommandSumPartLemmas.{disjoint_together}
use Rattle.run_spec.proofs.command_sum.laws.command_sums_are_disjoint.Goals as goal

pub returns : goal.returns
returns g c = disjoint_together g.A.Act.commands g.B.Act.commands g.C.Act.commands c.requires.first c.requires.second
