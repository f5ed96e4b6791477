use Rattle.cmd_disjoint.proofs.DisjointLemmas.{searches_disjoint_from_values}
use Rattle.cmd_disjoint.proofs.laws.searches_stand_disjoint.Goals as goal

pub returns : goal.returns
returns g c = searches_disjoint_from_values g.L.Prints.language
