use Rattle.thm_outcome.proofs.SomeOutcomeLemmas.{outcome_some}
use Rattle.thm_outcome.proofs.laws.total_commands_have_an_outcome.Goals as goal

pub returns : goal.returns
returns g c =
    outcome_some g.A.Act.commands g.R.RequestSet.of c.requires.lawful c.requires.total
