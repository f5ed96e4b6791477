use Rattle.opt_skip_only.proofs.only.OnlyWorkLemmas.{begins}
use Rattle.opt_skip_only.proofs.only.only_command.OnlyCommand.new.Goals as goal

pub returns-clause-has : goal.returns-clause-has
returns-clause-has g c = begins c.args.picked (g.W.Work.has c.args.work) c.requires
