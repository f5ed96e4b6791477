use Rattle.cmd_disjoint.proofs.DisjointLemmas.{certificates_disjoint_from_made}
use Rattle.cmd_disjoint.proofs.laws.certificates_stand_disjoint_from_made.Goals as goal

pub returns : goal.returns
returns g c =
    certificates_disjoint_from_made g.V.Verifies.language g.V.Verifies.Reads g.V.Verifies.ShownBy
    g.L.Prints.language
