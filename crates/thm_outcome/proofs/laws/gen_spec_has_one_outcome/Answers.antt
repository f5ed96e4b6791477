use Rattle.thm_outcome.proofs.TotalMadeLemmas.{outcomes_in_range}
use Rattle.thm_outcome.proofs.laws.gen_spec_has_one_outcome.Goals as goal

pub returns : goal.returns
returns g c = record {
  some = outcomes_in_range g.L.Prints.language c.total_commands_have_one_outcome.ensures.some;
  once = c.total_commands_have_one_outcome.ensures.once;
}
