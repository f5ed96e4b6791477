use Rattle.cmd_disjoint.proofs.DisjointLemmas.{sections_disjoint_from_texts}
use Rattle.cmd_disjoint.proofs.laws.sections_stand_disjoint_from_texts.Goals as goal

pub returns : goal.returns
returns g c =
    sections_disjoint_from_texts g.C.Certifies.language g.C.Certifies.SectionOf g.B.Builds.language
    g.B.Builds.TextOf
