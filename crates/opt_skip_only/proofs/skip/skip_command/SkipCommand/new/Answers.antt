use Rattle.opt_skip_only.specs.skip.SkipCommand.{passed_of}
use Rattle.opt_skip_only.proofs.skip.SkipCommandLemmas.{begins}
use Rattle.opt_skip_only.proofs.skip.skip_command.SkipCommand.new.Goals as goal

pub returns-clause-has : goal.returns-clause-has
returns-clause-has g c =
    begins (passed_of c.args.over) (g.W.Work.has c.args.work) c.requires
