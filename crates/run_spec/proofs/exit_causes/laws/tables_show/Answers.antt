use Rattle.run_spec.proofs.exit_causes.ExitCauseTableLemmas.{have_shown}
use Rattle.run_spec.proofs.exit_causes.laws.tables_show.Goals as goal

pub returns : goal.returns
returns g c = have_shown g.M.Meant.commands g.M.Meant.tables c.requires
