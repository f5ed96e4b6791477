use Rattle.cmd_gen.proofs.spec.GenSpecLawfulLemmas.{gen_spec_turns}
use Rattle.cmd_gen.proofs.spec.laws.gen_spec_takes_turns.Goals as goal

pub returns : goal.returns
returns g c = gen_spec_turns g.L.Prints.language
