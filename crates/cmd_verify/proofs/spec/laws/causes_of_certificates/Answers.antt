use Rattle.cmd_verify.proofs.spec.VerifySpecNeverLemmas.{never_edited}
use Rattle.cmd_verify.proofs.spec.laws.causes_of_certificates.Goals as goal

pub returns-clause-causes : goal.returns-clause-causes
returns-clause-causes g c = c.causes_of_tables.ensures

pub returns-clause-others : goal.returns-clause-others
returns-clause-others g c arguments call reports p =
    never_edited g.V.Verifies.language g.V.Verifies.Reads g.V.Verifies.ShownBy arguments call
    (c.causes_of_tables.ensures arguments call reports p).only
