use Rattle.opt_skip_only.proofs.skip_spec.SkippingLemmas.{others_disjoint}
use Rattle.opt_skip_only.proofs.skip_spec.laws.others_stand_disjoint.Goals as goal

pub returns : goal.returns
returns g c = others_disjoint g.P.PassesOver.passed_by g.C.Act.commands g.D.Act.commands c.requires
