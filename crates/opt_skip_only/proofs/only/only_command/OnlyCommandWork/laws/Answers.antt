use Rattle.opt_skip_only.proofs.only.OnlyWorkLemmas.{holds_by, stay_by}
use Rattle.opt_skip_only.proofs.only.only_command.OnlyCommandWork.laws.Goals as goal

pub returns-clause-holds : goal.returns-clause-holds
returns-clause-holds g c =
    let w = c.args.self.now in
    holds_by g.P.PicksOne.picked_by g.W.Work.commands (g.W.Work.act w.work) (g.W.Work.has w.work)
    c.laws.ensures.holds w.picked

pub returns-clause-stay : goal.returns-clause-stay
returns-clause-stay g c =
    let w = c.args.self.now in
    stay_by g.P.PicksOne.picked_by g.W.Work.commands (g.W.Work.act w.work) w.picked
    c.laws.ensures.stay
