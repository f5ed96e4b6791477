use Rattle.run_spec.proofs.command_sum.CommandSumPartLemmas.{idle_together}
use Rattle.run_spec.proofs.command_sum.laws.command_sums_are_idle.Goals as goal

pub returns : goal.returns
returns g c = λ request first second. idle_together g.A.Act.commands g.B.Act.commands request first second
