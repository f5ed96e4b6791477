use Rattle.run_loop.proofs.work.EnvironmentLemmas.{reports_environment}
use Rattle.run_loop.proofs.work.run_report.environment_is_known.Goals as goal

pub returns : goal.returns
returns g c = reports_environment g.W.Work.commands
