use Rattle.std.proofs.Common.{sym, subst}
use Rattle.base_io.specs.StreamState.{change}
use Rattle.opt_skip_only.specs.only_spec.OnlyCommand.{only_command}
use Rattle.run_loop.specs.work.Works.{EndsAt}
use Rattle.opt_skip_only.specs.only.Picked.{HasPicked}
use Rattle.opt_skip_only.proofs.only.OnlyWorkLemmas.{ended_each, ended_before}
use Rattle.opt_skip_only.proofs.only.only_command.OnlyCommandWork.end.Goals as goal

pub returns-in-None : goal.returns-in-None
returns-in-None g c =
    let w = c.args.self.now in
    let out = change (g.K.Sink.state c.args.out.now) (g.K.Sink.state c.end.new.out) in
    subst (λ picked. EndsAt (only_command g.P.PicksOne.picked_by g.W.Work.commands)
    (picked, g.W.Work.act w.work) (HasPicked picked (g.W.Work.has w.work)) out c.end.result)
    (sym c.in-None.is)
    (ended_each g.P.PicksOne.picked_by g.W.Work.commands (g.W.Work.act w.work)
    (g.W.Work.has w.work) out c.end.result c.end.ensures)

pub returns-in-Some : goal.returns-in-Some
returns-in-Some g c =
    let w = c.args.self.now in
    let o = g.K.Sink.state c.args.out.now in
    subst (λ picked. EndsAt (only_command g.P.PicksOne.picked_by g.W.Work.commands)
    (picked, g.W.Work.act w.work) (HasPicked picked (g.W.Work.has w.work)) (change o o)
    c.end_before.result)
    (sym c.in-Some.is)
    (ended_before g.P.PicksOne.picked_by g.W.Work.commands (g.W.Work.act w.work) c.in-Some.field-0
    (g.W.Work.has w.work) o c.end_before.result c.end_before.ensures)
