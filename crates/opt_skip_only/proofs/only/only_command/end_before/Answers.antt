use Rattle.opt_skip_only.proofs.only.OnlyWorkLemmas.{ends_missing, ends_stopped, ends_faulted}
use Rattle.opt_skip_only.proofs.only.only_command.end_before.Goals as goal

pub returns-in-Ok : goal.returns-in-Ok
returns-in-Ok g c =
    ends_missing g.W.Work.commands (g.W.Work.act c.args.work.now) (g.W.Work.has c.args.work.now) _
    c.count-count.result c.count-count.ensures c.split_value.result c.split_value.ensures
    c.in-Ok.field-0 c.in-Ok.ensures

pub returns-in-Err-Exit : goal.returns-in-Err-Exit
returns-in-Err-Exit g c =
    let ends = c.in-Err-Exit.ensures in
    rw c.in-Err-Exit.field-0-is
    (ends_stopped g.W.Work.commands (g.W.Work.act c.args.work.now) (g.W.Work.has c.args.work.now) _
    c.in-Err-Exit.exit (rw c.in-Err-Exit.field-0-is at ends))

pub returns-in-Err-WriteFault : goal.returns-in-Err-WriteFault
returns-in-Err-WriteFault g c =
    let ends = c.in-Err-WriteFault.ensures in
    ends_faulted g.W.Work.commands (g.W.Work.act c.args.work.now) (g.W.Work.has c.args.work.now) _
    (rw c.in-Err-WriteFault.field-0-is at ends)
