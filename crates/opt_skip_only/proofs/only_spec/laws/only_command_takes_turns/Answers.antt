use Rattle.opt_skip_only.proofs.only_spec.OnlyCommandLemmas.{in_turns}
use Rattle.opt_skip_only.proofs.only_spec.laws.only_command_takes_turns.Goals as goal

pub returns : goal.returns
returns g c = in_turns g.P.PicksOne.picked_by g.C.Act.commands c.requires
