use Rattle.opt_skip_only.proofs.only_spec.EachLemmas.{account_of_each, run_spec_of_each}
use Rattle.opt_skip_only.proofs.only_spec.laws.only_command_run_spec_of_each.Goals as goal

pub returns-clause-account : goal.returns-clause-account
returns-clause-account g c arguments call each =
    account_of_each g.P.PicksOne.picked_by g.C.Act.commands arguments each call

pub returns-clause-run_spec : goal.returns-clause-run_spec
returns-clause-run_spec g c arguments call each =
    run_spec_of_each g.P.PicksOne.picked_by g.C.Act.commands arguments each call
