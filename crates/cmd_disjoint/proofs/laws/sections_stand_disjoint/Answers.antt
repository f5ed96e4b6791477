use Rattle.cmd_disjoint.proofs.DisjointLemmas.{sections_disjoint}
use Rattle.cmd_disjoint.proofs.laws.sections_stand_disjoint.Goals as goal

pub returns : goal.returns
returns g c = sections_disjoint g.C.Certifies.language g.C.Certifies.SectionOf
