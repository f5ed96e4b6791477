use Rattle.cmd_disjoint.proofs.DisjointLemmas.{made_disjoint_from_texts}
use Rattle.cmd_disjoint.proofs.laws.made_stands_disjoint_from_texts.Goals as goal

pub returns : goal.returns
returns g c = made_disjoint_from_texts g.L.Prints.language g.B.Builds.language g.B.Builds.TextOf
