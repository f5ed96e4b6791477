use Rattle.cmd_disjoint.proofs.DisjointLemmas.{certificates_disjoint_from_texts}
use Rattle.cmd_disjoint.proofs.laws.certificates_stand_disjoint_from_texts.Goals as goal

pub returns : goal.returns
returns g c =
    certificates_disjoint_from_texts g.V.Verifies.language g.V.Verifies.Reads g.V.Verifies.ShownBy
    g.B.Builds.language g.B.Builds.TextOf
