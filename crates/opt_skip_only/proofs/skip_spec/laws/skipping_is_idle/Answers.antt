use Rattle.opt_skip_only.proofs.skip_spec.SkippingLemmas.{idle}
use Rattle.opt_skip_only.proofs.skip_spec.laws.skipping_is_idle.Goals as goal

pub returns : goal.returns
returns g c = idle g.P.PassesOver.passed_by g.C.Act.commands
