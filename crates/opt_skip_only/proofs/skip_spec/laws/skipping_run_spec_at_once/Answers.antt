use Rattle.opt_skip_only.proofs.skip_spec.AtOnceLemmas.{account_at_once, run_spec_at_once}
use Rattle.opt_skip_only.proofs.skip_spec.laws.skipping_run_spec_at_once.Goals as goal

pub returns-clause-account : goal.returns-clause-account
returns-clause-account g c arguments call none =
    account_at_once g.P.PassesOver.passed_by g.C.Act.commands arguments none call

pub returns-clause-run_spec : goal.returns-clause-run_spec
returns-clause-run_spec g c arguments call none =
    run_spec_at_once g.P.PassesOver.passed_by g.C.Act.commands arguments none call
