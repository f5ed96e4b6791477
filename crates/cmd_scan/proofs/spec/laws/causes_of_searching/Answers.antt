use Rattle.cmd_scan.proofs.spec.ScanSpecNeverLemmas.{never_stopped}
use Rattle.cmd_scan.proofs.spec.laws.causes_of_searching.Goals as goal

pub returns-clause-causes : goal.returns-clause-causes
returns-clause-causes g c = c.causes_of_tables.ensures

pub returns-clause-others : goal.returns-clause-others
returns-clause-others g c arguments call reports p =
    never_stopped g.S.Searches.limit_by arguments call
    (c.causes_of_tables.ensures arguments call reports p).only
