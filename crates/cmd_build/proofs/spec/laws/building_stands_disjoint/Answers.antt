use Rattle.cmd_build.proofs.spec.BuildSpecDisjointLemmas.{texts_idle, disjoint}
use Rattle.cmd_build.proofs.spec.laws.building_stands_disjoint.Goals as goal

pub returns-clause-idle : goal.returns-clause-idle
returns-clause-idle g c = texts_idle g.B.Builds.language g.B.Builds.TextOf

pub returns-clause-disjoint : goal.returns-clause-disjoint
returns-clause-disjoint g c = disjoint g.B.Builds.language g.B.Builds.TextOf
