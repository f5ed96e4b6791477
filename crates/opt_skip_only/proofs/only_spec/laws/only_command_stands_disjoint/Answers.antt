use Rattle.opt_skip_only.proofs.only_spec.OnlyCommandLemmas.{disjoint}
use Rattle.opt_skip_only.proofs.only_spec.laws.only_command_stands_disjoint.Goals as goal

pub returns : goal.returns
returns g c = disjoint g.P.PicksOne.picked_by g.C.Act.commands g.D.Act.commands c.requires
