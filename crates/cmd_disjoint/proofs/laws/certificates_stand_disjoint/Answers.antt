use Rattle.cmd_disjoint.proofs.DisjointLemmas.{certificates_disjoint}
use Rattle.cmd_disjoint.proofs.laws.certificates_stand_disjoint.Goals as goal

pub returns : goal.returns
returns g c = certificates_disjoint g.V.Verifies.language g.V.Verifies.Reads g.V.Verifies.ShownBy
