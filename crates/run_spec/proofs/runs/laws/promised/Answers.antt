use Rattle.run_spec.proofs.runs.RunAccountLemmas.{promised}
use Rattle.run_spec.proofs.runs.laws.promised.Goals as goal

pub returns : goal.returns
returns g c = promised g.A.Act.commands c.requires
