use Rattle.cmd_gen.proofs.spec.GenSpecIdleLemmas.{gen_spec_idle}
use Rattle.cmd_gen.proofs.spec.laws.gen_spec_is_idle_elsewhere.Goals as goal

pub returns : goal.returns
returns g c = gen_spec_idle g.L.Prints.language
