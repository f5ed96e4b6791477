use Rattle.thm_outcome.proofs.SomeOutcomeLemmas.{one_outcome}
use Rattle.thm_outcome.proofs.laws.total_commands_have_one_outcome.Goals as goal

pub returns : goal.returns
returns g c =
    one_outcome g.A.Act.commands g.R.RequestSet.of c.lawful_commands.ensures.outcome
    c.total_commands_have_an_outcome.ensures
