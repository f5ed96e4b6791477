use Rattle.cmd_disjoint.proofs.DisjointLemmas.{sections_disjoint_from_made}
use Rattle.cmd_disjoint.proofs.laws.sections_stand_disjoint_from_made.Goals as goal

pub returns : goal.returns
returns g c =
    sections_disjoint_from_made g.C.Certifies.language g.C.Certifies.SectionOf g.L.Prints.language
