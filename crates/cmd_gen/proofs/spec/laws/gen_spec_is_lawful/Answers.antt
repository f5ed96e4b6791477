use Rattle.cmd_gen.proofs.spec.GenSpecLawfulLemmas.{gen_spec_lawful}
use Rattle.cmd_gen.proofs.spec.laws.gen_spec_is_lawful.Goals as goal

pub returns : goal.returns
returns g c = gen_spec_lawful g.L.Prints.language c.requires
