use Rattle.std.proofs.Common.{length}
use Rattle.cli_spec.specs.declared.exit.Exit.TheVariants.{Memory}
use Rattle.base_io.specs.StreamState.{change}
use Rattle.run_spec.specs.value_commands.Tasks.{commands}
use Rattle.run_types.specs.Language.{declared_types}
use Rattle.cli_errors.specs.declared.exit_line.Error.TheVariants.{Exit}
use Rattle.types_table.specs.type_table.Made.{table_of}
use Rattle.run_loop.proofs.work.WorkChunkLemmas.{feeds_error}
use Rattle.session.specs.CheckProgress.{HasTaken}
use Rattle.session.specs.InputValues.{task_of}
use Rattle.session.proofs.ProgressLemmas.{ready_to_leave, short_edited, left_feeds, more_edited, inconclusive_edited, feeds_weaker, memory_aborts_taken}
use Rattle.session.proofs.session_state.SessionState.feed_edited.Goals as goal

pub is_left_due-requires : goal.is_left_due-requires
is_left_due-requires g c = let t = c.requires.has in (c.args.self.now.value_task, t.2.before, t.1, t.2.read)

pub fast_check_unchanged-requires-clause-stream_check : goal.fast_check_unchanged-requires-clause-stream_check
fast_check_unchanged-requires-clause-stream_check g c =
    let p = c.args.self.now in
    let t = c.requires.has in ready_to_leave p.value_task c.args.edits c.args.limit c.requires.value_task p.values p.stream_check t.0 t.1 t.2

pub fast_check_unchanged-requires-clause-none : goal.fast_check_unchanged-requires-clause-none
fast_check_unchanged-requires-clause-none g c = c.if-not-is_left_due.ensures.0

pub take_left-requires-clause-some : goal.take_left-requires-clause-some
take_left-requires-clause-some g c = (rw c.in-Whole.is at c.in_ok-answer.ensures).some

pub take_left-requires-clause-short : goal.take_left-requires-clause-short
take_left-requires-clause-short g c =
    let p = c.args.self.now in
    let t = c.requires.has in short_edited p.value_task c.args.edits c.args.limit c.requires.value_task p.values p.stream_check t.0 t.1 (length c.args.buffered.now) t.3 t.2

pub take_left-requires-clause-between : goal.take_left-requires-clause-between
take_left-requires-clause-between g c = c.if-not-is_left_due.ensures.1

pub take_left-requires-clause-left : goal.take_left-requires-clause-left
take_left-requires-clause-left g c = c.if-not-is_left_due.ensures.2

pub take_left-requires-clause-unchanged : goal.take_left-requires-clause-unchanged
take_left-requires-clause-unchanged g c = (rw c.in-Whole.is at c.in_ok-answer.ensures).unchanged

pub read_on-requires-in-Inconclusive-clause-has : goal.read_on-requires-in-Inconclusive-clause-has
read_on-requires-in-Inconclusive-clause-has g c =
    let p = c.args.self.now in
    let t = c.requires.has in
    let inconclusive = rw c.in-Inconclusive.is at c.in_ok-answer.ensures in
    (t.0, t.1, inconclusive_edited p.value_task c.args.edits c.args.limit c.requires.value_task p.values p.stream_check c.fast_check_unchanged.new.stream_check t.0 t.1 c.if-not-is_left_due.ensures.0 inconclusive.0 inconclusive.1 t.2, t.3)

pub returns-in_err-answer-clause-feeds : goal.returns-in_err-answer-clause-feeds
returns-in_err-answer-clause-feeds g c =
    let p = c.args.self.now in
    feeds_error (commands declared_types) (task_of p.value_task) (HasTaken p.value_task p.values p.stream_check) (HasTaken p.value_task p.values c.fast_check_unchanged.new.stream_check) c.args.buffered.now
    (change (g.K.Sink.state c.args.out.now) (g.K.Sink.state c.args.out.now)) (Exit Memory) c.from_residual.result c.from_residual.ensures.1
    (λ taken output h. memory_aborts_taken p.value_task p.values p.stream_check taken output h c.args.buffered.now (g.K.Sink.state c.args.out.now))

pub returns-in-Whole-clause-feeds : goal.returns-in-Whole-clause-feeds
returns-in-Whole-clause-feeds g c =
    let p = c.args.self.now in
    let seen = rw c.in-Whole.is at c.in_ok-answer.ensures in
    left_feeds p.value_task c.args.edits c.args.limit c.requires.value_task p.values p.stream_check c.take_left.new.self c.fast_check_unchanged.new.stream_check c.args.buffered.now
    (change (g.K.Sink.state c.args.out.now) (g.K.Sink.state c.take_left.new.out)) c.take_left.result c.if-not-is_left_due.ensures.0
    seen.none (seen.stream_check (table_of c.args.edits.requested.now.table) c.args.limit) c.take_left.ensures

pub returns-in-More-clause-feeds : goal.returns-in-More-clause-feeds
returns-in-More-clause-feeds g c =
    let p = c.args.self.now in
    let due = c.if-not-is_left_due.ensures in
    let more = rw c.in-More.is at c.in_ok-answer.ensures in
    more_edited p.value_task c.args.edits c.args.limit c.requires.value_task p.values p.stream_check c.fast_check_unchanged.new.stream_check c.args.buffered.now (g.K.Sink.state c.args.out.now) c.requires.some due.0 due.1 more.0 more.1

pub returns-in-Inconclusive-clause-feeds : goal.returns-in-Inconclusive-clause-feeds
returns-in-Inconclusive-clause-feeds g c =
    let p = c.args.self.now in
    let new = c.read_on-in-Inconclusive.new.self in
    let stream_check = c.fast_check_unchanged.new.stream_check in
    let inconclusive = rw c.in-Inconclusive.is at c.in_ok-answer.ensures in
    feeds_weaker (commands declared_types) (task_of p.value_task) (HasTaken p.value_task p.values stream_check) (HasTaken p.value_task p.values p.stream_check) (HasTaken p.value_task new.values new.stream_check) (HasTaken p.value_task new.values new.stream_check) c.args.buffered.now
    (change (g.K.Sink.state c.args.out.now) (g.K.Sink.state c.read_on-in-Inconclusive.new.out)) c.read_on-in-Inconclusive.result
    (λ taken output h. inconclusive_edited p.value_task c.args.edits c.args.limit c.requires.value_task p.values p.stream_check stream_check taken output c.if-not-is_left_due.ensures.0 inconclusive.0 inconclusive.1 h) (λ taken output h. h) c.read_on-in-Inconclusive.ensures.feeds
