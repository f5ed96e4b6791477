use Rattle.cmd_disjoint.proofs.DisjointLemmas.{sections_disjoint_from_certificates}
use Rattle.cmd_disjoint.proofs.laws.sections_stand_disjoint_from_certificates.Goals as goal

pub returns : goal.returns
returns g c =
    sections_disjoint_from_certificates g.C.Certifies.language g.C.Certifies.SectionOf
    g.V.Verifies.language g.V.Verifies.Reads g.V.Verifies.ShownBy
