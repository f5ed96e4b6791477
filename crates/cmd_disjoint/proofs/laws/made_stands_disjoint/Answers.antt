use Rattle.cmd_disjoint.proofs.DisjointLemmas.{made_disjoint}
use Rattle.cmd_disjoint.proofs.laws.made_stands_disjoint.Goals as goal

pub returns : goal.returns
returns g c = made_disjoint g.L.Prints.language
