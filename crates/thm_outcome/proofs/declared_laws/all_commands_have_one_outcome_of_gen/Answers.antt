use Rattle.session.specs.All.{all_commands}
use Rattle.thm_outcome.specs.TotalMade.{IsMadeRequest}
use Rattle.thm_outcome.proofs.AllOutcomeLemmas.{all_gen_outcomes}
use Rattle.thm_outcome.proofs.SomeOutcomeLemmas.{one_outcome}
use Rattle.thm_outcome.proofs.declared_laws.all_commands_have_one_outcome_of_gen.Goals as goal

pub returns : goal.returns
returns c =
    one_outcome all_commands IsMadeRequest c.all_commands_have_one_outcome.ensures
    (all_gen_outcomes IsMadeRequest c.gen_has_one_outcome.ensures.some)
