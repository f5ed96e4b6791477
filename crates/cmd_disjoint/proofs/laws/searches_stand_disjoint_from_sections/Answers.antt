use Rattle.cmd_disjoint.proofs.DisjointLemmas.{searches_disjoint_from_sections}
use Rattle.cmd_disjoint.proofs.laws.searches_stand_disjoint_from_sections.Goals as goal

pub returns : goal.returns
returns g c = searches_disjoint_from_sections g.C.Certifies.language g.C.Certifies.SectionOf
