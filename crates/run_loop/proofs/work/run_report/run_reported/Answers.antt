use Rattle.run_loop.proofs.work.WorkAccountLemmas.{account}
use Rattle.run_loop.proofs.work.run_report.run_reported.Goals as goal

pub returns-clause-account : goal.returns-clause-account
returns-clause-account g c =
    account g.W.Work.commands (g.W.Work.act c.args.work.now) _ _ _ c.report.result c.run_work-ended.result c.run_work-ended.ensures.runs c.report.ensures
