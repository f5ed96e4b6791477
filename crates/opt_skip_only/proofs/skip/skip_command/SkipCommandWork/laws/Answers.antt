use Rattle.opt_skip_only.specs.skip.SkipCommand.{passed_of}
use Rattle.opt_skip_only.proofs.skip.SkipCommandLemmas.{holds, stay}
use Rattle.opt_skip_only.proofs.skip.skip_command.SkipCommandWork.laws.Goals as goal

pub returns-clause-holds : goal.returns-clause-holds
returns-clause-holds g c = λ bytes output h.
    let w = c.args.self.now in
    holds g.P.PassesOver.passed_by g.W.Work.commands (passed_of w.over) (g.W.Work.act w.work)
    (g.W.Work.has w.work) c.laws.ensures.holds w.left bytes output h

pub returns-clause-stay : goal.returns-clause-stay
returns-clause-stay g c =
    let w = c.args.self.now in
    stay g.P.PassesOver.passed_by g.W.Work.commands (passed_of w.over) (g.W.Work.act w.work)
    c.laws.ensures.stay
