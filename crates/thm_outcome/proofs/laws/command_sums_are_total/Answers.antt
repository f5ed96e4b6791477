use Rattle.thm_outcome.proofs.TotalSumLemmas.{sum_total}
use Rattle.thm_outcome.proofs.laws.command_sums_are_total.Goals as goal

pub returns : goal.returns
returns g c =
    sum_total g.A.Act.commands g.B.Act.commands g.Q.RequestSet.of g.R.RequestSet.of
    c.requires.first c.requires.second c.requires.disjoint
