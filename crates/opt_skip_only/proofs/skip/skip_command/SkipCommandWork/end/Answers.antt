use Rattle.std.proofs.Common.{arith}
use Rattle.base_io.specs.StreamState.{change}
use Rattle.opt_skip_only.specs.skip.SkipCommand.{passed_of}
use Rattle.opt_skip_only.proofs.skip.SkipCommandLemmas.{ended_at, ended_short}
use Rattle.opt_skip_only.proofs.skip.skip_command.SkipCommandWork.end.Goals as goal

pub returns-then-self-gt0 : goal.returns-then-self-gt0
returns-then-self-gt0 g c =
    let w = c.args.self.now in
    ended_short g.P.PassesOver.passed_by g.W.Work.commands (passed_of w.over) (g.W.Work.act w.work)
    (g.W.Work.has w.work) w.left (g.K.Sink.state c.args.out.now) c.if-self-gt0.true

pub returns : goal.returns
returns g c =
    let w = c.args.self.now in
    let none = c.if-self-gt0.false in
    ended_at g.P.PassesOver.passed_by g.W.Work.commands (passed_of w.over) (g.W.Work.act w.work)
    (g.W.Work.has w.work) w.left (omega (arith, none))
    (change (g.K.Sink.state c.args.out.now) (g.K.Sink.state c.end.new.out)) c.end.result c.end.ensures
