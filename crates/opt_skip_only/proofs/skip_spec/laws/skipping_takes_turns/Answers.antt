use Rattle.opt_skip_only.proofs.skip_spec.SkippingLemmas.{in_turns}
use Rattle.opt_skip_only.proofs.skip_spec.laws.skipping_takes_turns.Goals as goal

pub returns : goal.returns
returns g c = in_turns g.P.PassesOver.passed_by g.C.Act.commands c.requires
