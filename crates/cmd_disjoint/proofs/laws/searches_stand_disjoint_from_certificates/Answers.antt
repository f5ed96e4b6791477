use Rattle.cmd_disjoint.proofs.DisjointLemmas.{searches_disjoint_from_certificates}
use Rattle.cmd_disjoint.proofs.laws.searches_stand_disjoint_from_certificates.Goals as goal

pub returns : goal.returns
returns g c =
    searches_disjoint_from_certificates g.V.Verifies.language g.V.Verifies.Reads g.V.Verifies.ShownBy
