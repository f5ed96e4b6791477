use Rattle.run_spec.proofs.command_sum.CommandSumPartLemmas.{accounts_of_first, run_spec_as_first}
use Rattle.run_spec.proofs.command_sum.laws.command_sums_specify_as_the_first.Goals as goal

pub returns-clause-account : goal.returns-clause-account
returns-clause-account g c = λ arguments call idle account. accounts_of_first g.A.Act.commands g.B.Act.commands arguments call idle account

pub returns-clause-run_spec : goal.returns-clause-run_spec
returns-clause-run_spec g c = λ arguments call idle run_spec. run_spec_as_first g.A.Act.commands g.B.Act.commands arguments call idle run_spec
