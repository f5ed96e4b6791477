use Rattle.thm_outcome.proofs.TotalMadeLemmas.{gen_total}
use Rattle.thm_outcome.proofs.laws.gen_spec_is_total.Goals as goal

pub returns : goal.returns
returns g c = gen_total g.L.Prints.language c.requires.types c.requires.lines
