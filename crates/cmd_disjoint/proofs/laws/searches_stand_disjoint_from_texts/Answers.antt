use Rattle.cmd_disjoint.proofs.DisjointLemmas.{searches_disjoint_from_texts}
use Rattle.cmd_disjoint.proofs.laws.searches_stand_disjoint_from_texts.Goals as goal

pub returns : goal.returns
returns g c = searches_disjoint_from_texts g.B.Builds.language g.B.Builds.TextOf
