use Rattle.opt_skip_only.proofs.skip_spec.SkippingLemmas.{disjoint}
use Rattle.opt_skip_only.proofs.skip_spec.laws.skipping_stands_disjoint.Goals as goal

pub returns : goal.returns
returns g c = disjoint g.P.PassesOver.passed_by g.C.Act.commands g.D.Act.commands c.requires
