use Rattle.opt_skip_only.proofs.only_spec.OnlyTableLemmas.{exact}
use Rattle.opt_skip_only.proofs.only_spec.laws.only_command_has_exit_statuses.Goals as goal

pub returns : goal.returns
returns g c =
    exact g.P.PicksOne.picked_by g.M.Meant.commands g.M.Meant.tables c.requires
