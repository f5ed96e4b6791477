use Rattle.session.specs.All.{all_commands}
use Rattle.thm_outcome.specs.TotalLanguage.{ReadsNoType}
use Rattle.thm_outcome.proofs.AllOutcomeLemmas.{all_outcomes}
use Rattle.thm_outcome.proofs.SomeOutcomeLemmas.{one_outcome}
use Rattle.thm_outcome.proofs.declared_laws.all_commands_have_one_outcome_of_dump_and_same.Goals as goal

pub returns : goal.returns
returns c =
    one_outcome all_commands ReadsNoType c.all_commands_have_one_outcome.ensures
    (all_outcomes ReadsNoType c.dump_and_same_have_one_outcome.ensures.some)
