use Rattle.cmd_build.proofs.spec.BuildSpecNeverLemmas.{never_refused}
use Rattle.cmd_build.proofs.spec.laws.causes_of_texts.Goals as goal

pub returns-clause-causes : goal.returns-clause-causes
returns-clause-causes g c = c.causes_of_tables.ensures

pub returns-clause-others : goal.returns-clause-others
returns-clause-others g c arguments call reports p =
    never_refused g.B.Builds.language g.B.Builds.TextOf arguments call
    (c.causes_of_tables.ensures arguments call reports p).only
