use Rattle.opt_skip_only.proofs.skip_spec.SkipTableLemmas.{exact}
use Rattle.opt_skip_only.proofs.skip_spec.laws.skipping_has_exit_statuses.Goals as goal

pub returns : goal.returns
returns g c =
    exact g.P.PassesOver.passed_by g.M.Meant.commands g.M.Meant.tables c.requires
