use Rattle.cmd_certify.proofs.spec.CertifySpecNeverLemmas.{never_rejected}
use Rattle.cmd_certify.proofs.spec.laws.causes_of_sections.Goals as goal

pub returns-clause-causes : goal.returns-clause-causes
returns-clause-causes g c = c.causes_of_tables.ensures

pub returns-clause-others : goal.returns-clause-others
returns-clause-others g c arguments call reports p =
    never_rejected g.V.Certifies.language g.V.Certifies.SectionOf arguments call
    (c.causes_of_tables.ensures arguments call reports p).only
