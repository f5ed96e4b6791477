use Rattle.thm_outcome.proofs.TotalSkipLemmas.{skip_total}
use Rattle.thm_outcome.proofs.laws.skipping_is_total.Goals as goal

pub returns : goal.returns
returns g c =
    skip_total g.P.PassesOver.passed_by g.C.Act.commands g.R.RequestSet.of c.requires
