use Rattle.opt_skip_only.proofs.only_spec.OnlyCommandLemmas.{lawful}
use Rattle.opt_skip_only.proofs.only_spec.laws.only_command_is_lawful.Goals as goal

pub returns : goal.returns
returns g c = lawful g.P.PicksOne.picked_by g.C.Act.commands c.requires
