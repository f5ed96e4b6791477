use Rattle.opt_skip_only.proofs.skip_spec.SkippingLemmas.{lawful}
use Rattle.opt_skip_only.proofs.skip_spec.laws.skipping_is_lawful.Goals as goal

pub returns : goal.returns
returns g c = lawful g.P.PassesOver.passed_by g.C.Act.commands c.requires
