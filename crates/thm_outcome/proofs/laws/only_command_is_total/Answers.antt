use Rattle.thm_outcome.proofs.TotalOnlyLemmas.{only_total}
use Rattle.thm_outcome.proofs.laws.only_command_is_total.Goals as goal

pub returns : goal.returns
returns g c =
    only_total g.P.PicksOne.picked_by g.C.Act.commands g.R.RequestSet.of c.requires
