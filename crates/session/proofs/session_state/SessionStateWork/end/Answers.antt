use Rattle.std.proofs.Common.{◌<◌, length}
use Rattle.session.proofs.ProgressLemmas.{all_read, ends_taken, some_length}
use Rattle.session.proofs.session_state.SessionStateWork.end.Goals as goal

pub finish-requires : goal.finish-requires
finish-requires g c =
    let r = c.requires in
    let p = c.args.self.now in (r.0, r.1, all_read p.value_task p.values p.stream_check r.0 r.1 c.if-keeps_none.ensures r.2)

pub returns-then-keeps_none : goal.returns-then-keeps_none
returns-then-keeps_none g c = λ taken output h.
    let p = c.args.self.now in c.finish.ensures taken output (all_read p.value_task p.values p.stream_check taken output c.if-keeps_none.ensures h)

pub returns : goal.returns
returns g c = λ taken output h.
    let p = c.args.self.now in
    let some : 0 < length p.stream_check.kept.items = some_length p.stream_check.kept.items c.if-keeps_none.ensures in
    ends_taken p.value_task p.values p.stream_check taken output h some (g.K.Sink.state c.args.out.now) c.split_value.result
    (rw c.kept.ensures at c.split_value.ensures)
