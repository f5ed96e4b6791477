use Rattle.opt_skip_only.proofs.only_spec.OnlyCommandLemmas.{idle}
use Rattle.opt_skip_only.proofs.only_spec.laws.only_command_is_idle.Goals as goal

pub returns : goal.returns
returns g c = idle g.P.PicksOne.picked_by g.C.Act.commands
