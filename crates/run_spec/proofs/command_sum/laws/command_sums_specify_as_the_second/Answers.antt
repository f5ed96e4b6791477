use Rattle.run_spec.proofs.command_sum.CommandSumPartLemmas.{accounts_of_second, run_spec_as_second}
use Rattle.run_spec.proofs.command_sum.laws.command_sums_specify_as_the_second.Goals as goal

pub returns-clause-account : goal.returns-clause-account
returns-clause-account g c = λ arguments call idle account. accounts_of_second g.A.Act.commands g.B.Act.commands arguments call idle account

pub returns-clause-run_spec : goal.returns-clause-run_spec
returns-clause-run_spec g c = λ arguments call idle run_spec. run_spec_as_second g.A.Act.commands g.B.Act.commands arguments call idle run_spec
