use Rattle.cmd_disjoint.proofs.DisjointLemmas.{searches_disjoint_from_made}
use Rattle.cmd_disjoint.proofs.laws.searches_stand_disjoint_from_made.Goals as goal

pub returns : goal.returns
returns g c = searches_disjoint_from_made g.L.Prints.language
