use Rattle.std.proofs.Common.{length, ap, subst, sym, ◌+◌, ◌++◌}
use Rattle.cli_spec.specs.declared.exit.Exit.TheVariants.{Memory}
use Rattle.base_io.specs.StreamState.{change}
use Rattle.run_spec.specs.value_commands.Tasks.{commands}
use Rattle.run_types.specs.Language.{declared_types}
use Rattle.cli_errors.specs.declared.exit_line.Error.TheVariants.{Exit}
use Rattle.types_table.specs.type_table.Made.{table_of}
use Rattle.run_loop.proofs.work.WorkChunkLemmas.{feeds_error}
use Rattle.session.specs.FastCheck.{IsVerdictOn, no_in}
use Rattle.session.specs.CheckProgress.{HasTaken}
use Rattle.session.specs.InputValues.{task_of}
use Rattle.session.proofs.ProgressLemmas.{ready_to_inspect, is_between, short_before, known_feeds, more_feeds, inconclusive_taken, read_feeds, memory_aborts_taken}
use Rattle.session.proofs.session_state.SessionStateWork.feed.Goals as goal

pub is_due-requires : goal.is_due-requires
is_due-requires g c = let t = c.requires.has in (c.args.self.now.value_task, t.2.before, t.1, t.2.read)

pub fast_check-requires : goal.fast_check-requires
fast_check-requires g c =
    let p = c.args.self.now in
    let t = c.requires.has in record { stream_check = ready_to_inspect p.value_task c.in-Some.requested c.in-Some.limit c.in-Some.ensures p.values p.stream_check t.0 t.1 t.2 }

pub take_known-requires-clause-some : goal.take_known-requires-clause-some
take_known-requires-clause-some g c = (rw c.in-Yes.is at c.in_ok-seen.ensures).some

pub take_known-requires-clause-within : goal.take_known-requires-clause-within
take_known-requires-clause-within g c = (rw c.in-Yes.is at c.in_ok-seen.ensures).within

pub take_known-requires-clause-short : goal.take_known-requires-clause-short
take_known-requires-clause-short g c =
    let p = c.args.self.now in
    let t = c.requires.has in short_before p.value_task c.in-Some.requested c.in-Some.limit c.in-Some.ensures p.values p.stream_check t.0 t.1 (length c.args.chunk.now) t.3 t.2

pub take_known-requires-clause-between : goal.take_known-requires-clause-between
take_known-requires-clause-between g c =
    let p = c.args.self.now in
    let t = c.requires.has in is_between p.value_task c.in-Some.requested c.in-Some.limit c.in-Some.ensures p.values p.stream_check t.0 t.1 c.if-not-is_due.ensures t.2

pub take_known-requires-in-No-clause-some : goal.take_known-requires-in-No-clause-some
take_known-requires-in-No-clause-some g c = (rw c.in-No.is at c.in_ok-seen.ensures).some

pub take_known-requires-in-No-clause-within : goal.take_known-requires-in-No-clause-within
take_known-requires-in-No-clause-within g c = (rw c.in-No.is at c.in_ok-seen.ensures).within

pub take_known-requires-in-No-clause-short : goal.take_known-requires-in-No-clause-short
take_known-requires-in-No-clause-short g c =
    let p = c.args.self.now in
    let t = c.requires.has in short_before p.value_task c.in-Some.requested c.in-Some.limit c.in-Some.ensures p.values p.stream_check t.0 t.1 (length c.args.chunk.now) t.3 t.2

pub take_known-requires-in-No-clause-between : goal.take_known-requires-in-No-clause-between
take_known-requires-in-No-clause-between g c =
    let p = c.args.self.now in
    let t = c.requires.has in is_between p.value_task c.in-Some.requested c.in-Some.limit c.in-Some.ensures p.values p.stream_check t.0 t.1 c.if-not-is_due.ensures t.2

pub read_on-requires-in-Inconclusive-clause-has : goal.read_on-requires-in-Inconclusive-clause-has
read_on-requires-in-Inconclusive-clause-has g c =
    let p = c.args.self.now in
    let t = c.requires.has in
    let inconclusive = rw c.in-Inconclusive.is at c.in_ok-seen.ensures in
    (t.0, t.1, inconclusive_taken p.value_task c.in-Some.requested c.in-Some.limit c.in-Some.ensures p.values p.stream_check c.fast_check.new.stream_check t.0 t.1 inconclusive.0 inconclusive.1 t.2, t.3)

pub returns-in-Edit-clause-feeds : goal.returns-in-Edit-clause-feeds
returns-in-Edit-clause-feeds g c = λ reads.
    let p = c.args.self.now in
    let new = c.feed_edited.new.self in
    read_feeds p.value_task new.value_task c.feed_edited.ensures.kept p.values new.values p.stream_check p.stream_check new.stream_check c.args.chunk.now (change (g.K.Sink.state c.args.out.now) (g.K.Sink.state c.feed_edited.new.out)) c.feed_edited.result
    (λ taken output h. h) c.feed_edited.ensures.feeds

pub returns-in_default-verdict : goal.returns-in_default-verdict
returns-in_default-verdict g c =
    let p = c.args.self.now in
    let new = c.read_on.new.self in record {
      kept = ap task_of c.read_on.ensures.kept;
      feeds = λ reads.
          read_feeds p.value_task new.value_task c.read_on.ensures.kept p.values new.values p.stream_check p.stream_check new.stream_check c.args.chunk.now (change (g.K.Sink.state c.args.out.now) (g.K.Sink.state c.read_on.new.out)) c.read_on.result
          (λ taken output h. h) c.read_on.ensures.feeds;
    }

pub returns-then-not-is_due-clause-kept : goal.returns-then-not-is_due-clause-kept
returns-then-not-is_due-clause-kept g c = ap task_of c.read_on-then-not-is_due.ensures.kept

pub returns-then-not-is_due-clause-feeds : goal.returns-then-not-is_due-clause-feeds
returns-then-not-is_due-clause-feeds g c = λ reads.
    let p = c.args.self.now in
    let new = c.read_on-then-not-is_due.new.self in
    read_feeds p.value_task new.value_task c.read_on-then-not-is_due.ensures.kept p.values new.values p.stream_check p.stream_check new.stream_check c.args.chunk.now (change (g.K.Sink.state c.args.out.now) (g.K.Sink.state c.read_on-then-not-is_due.new.out)) c.read_on-then-not-is_due.result
    (λ taken output h. h) c.read_on-then-not-is_due.ensures.feeds

pub returns-in_err-seen-clause-feeds : goal.returns-in_err-seen-clause-feeds
returns-in_err-seen-clause-feeds g c = λ reads.
    let p = c.args.self.now in
    feeds_error (commands declared_types) (task_of p.value_task) (HasTaken p.value_task p.values p.stream_check) (HasTaken p.value_task p.values c.fast_check.new.stream_check) c.args.chunk.now
    (change (g.K.Sink.state c.args.out.now) (g.K.Sink.state c.args.out.now)) (Exit Memory) c.from_residual.result c.from_residual.ensures.1
    (λ taken output h. memory_aborts_taken p.value_task p.values p.stream_check taken output h c.args.chunk.now (g.K.Sink.state c.args.out.now))

pub returns-in-Yes-clause-feeds : goal.returns-in-Yes-clause-feeds
returns-in-Yes-clause-feeds g c = λ reads.
    let p = c.args.self.now in
    let t = c.requires.has in
    let r = c.in-Some.requested in
    let limit = c.in-Some.limit in
    let seen = rw c.in-Yes.is at c.in_ok-seen.ensures in
    let inspect = ready_to_inspect p.value_task r limit c.in-Some.ensures p.values p.stream_check t.0 t.1 t.2 in
    known_feeds p.value_task r limit c.in-Some.ensures p.values p.stream_check c.take_known.new.self c.fast_check.new.stream_check c.args.chunk.now (change (g.K.Sink.state c.args.out.now) (g.K.Sink.state c.take_known.new.out)) c.take_known.result
    seen.none (seen.stream_check (table_of r.now.table) limit) (c.take_known.ensures p.stream_check.kept.items inspect.bytes inspect.is_prefix seen.verdict)

pub returns-in-No-clause-feeds : goal.returns-in-No-clause-feeds
returns-in-No-clause-feeds g c = λ reads.
    let p = c.args.self.now in
    let t = c.requires.has in
    let r = c.in-Some.requested in
    let limit = c.in-Some.limit in
    let seen = rw c.in-No.is at c.in_ok-seen.ensures in
    let inspect = ready_to_inspect p.value_task r limit c.in-Some.ensures p.values p.stream_check t.0 t.1 t.2 in
    known_feeds p.value_task r limit c.in-Some.ensures p.values p.stream_check c.take_known-in-No.new.self c.fast_check.new.stream_check c.args.chunk.now (change (g.K.Sink.state c.args.out.now) (g.K.Sink.state c.take_known-in-No.new.out)) c.take_known-in-No.result
    seen.none (seen.stream_check (table_of r.now.table) limit) (c.take_known-in-No.ensures p.stream_check.kept.items inspect.bytes inspect.is_prefix (subst (λ text. IsVerdictOn r.now limit (length p.stream_check.kept.items + c.in-No.n) (p.stream_check.kept.items ++ c.args.chunk.now) (no_in text)) (sym c.as_slice-line.ensures.value) seen.verdict))

pub returns-in-More-clause-feeds : goal.returns-in-More-clause-feeds
returns-in-More-clause-feeds g c = λ reads.
    let p = c.args.self.now in
    let more = rw c.in-More.is at c.in_ok-seen.ensures in
    more_feeds p.value_task c.in-Some.requested c.in-Some.limit c.in-Some.ensures p.values p.stream_check c.fast_check.new.stream_check c.args.chunk.now (g.K.Sink.state c.args.out.now) c.requires.some c.if-not-is_due.ensures more.0 more.1

pub returns-in-Inconclusive-clause-kept : goal.returns-in-Inconclusive-clause-kept
returns-in-Inconclusive-clause-kept g c = ap task_of c.read_on-in-Inconclusive.ensures.kept

pub returns-in-Inconclusive-clause-feeds : goal.returns-in-Inconclusive-clause-feeds
returns-in-Inconclusive-clause-feeds g c = λ reads.
    let p = c.args.self.now in
    let new = c.read_on-in-Inconclusive.new.self in
    let stream_check = c.fast_check.new.stream_check in
    let inconclusive = rw c.in-Inconclusive.is at c.in_ok-seen.ensures in
    read_feeds p.value_task new.value_task c.read_on-in-Inconclusive.ensures.kept p.values new.values p.stream_check stream_check new.stream_check c.args.chunk.now (change (g.K.Sink.state c.args.out.now) (g.K.Sink.state c.read_on-in-Inconclusive.new.out)) c.read_on-in-Inconclusive.result
    (λ taken output h. inconclusive_taken p.value_task c.in-Some.requested c.in-Some.limit c.in-Some.ensures p.values p.stream_check stream_check taken output inconclusive.0 inconclusive.1 h) c.read_on-in-Inconclusive.ensures.feeds
