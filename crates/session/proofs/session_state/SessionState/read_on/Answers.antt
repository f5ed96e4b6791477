use Rattle.cli_spec.specs.declared.exit.Exit.TheVariants.{Memory}
use Rattle.base_io.specs.StreamState.{change}
use Rattle.run_spec.specs.value_commands.Tasks.{commands}
use Rattle.run_types.specs.Language.{declared_types}
use Rattle.cli_errors.specs.declared.exit_line.Error.TheVariants.{Exit}
use Rattle.run_loop.proofs.work.WorkChunkLemmas.{feeds_error}
use Rattle.session.specs.CheckProgress.{HasTaken}
use Rattle.session.specs.InputValues.{HasRead, task_of}
use Rattle.session.proofs.ProgressLemmas.{feeds_weaker, read_taken, checked_any, memory_aborts_taken}
use Rattle.session.proofs.session_state.SessionState.read_on.Goals as goal

pub give_up-requires : goal.give_up-requires
give_up-requires g c = let r = c.requires.has in (c.args.self.now.value_task, r.0, r.1, r.2)

pub returns-in_err-give_up-clause-feeds : goal.returns-in_err-give_up-clause-feeds
returns-in_err-give_up-clause-feeds g c =
    let old = c.args.self.now in
    feeds_error (commands declared_types) (task_of old.value_task) (HasTaken old.value_task old.values old.stream_check) (HasTaken old.value_task c.give_up.new.values c.give_up.new.stream_check) c.args.buffered.now
    (change (g.K.Sink.state c.args.out.now) (g.K.Sink.state c.args.out.now)) (Exit Memory) c.from_residual.result c.from_residual.ensures.1
    (λ taken output h. memory_aborts_taken old.value_task old.values old.stream_check taken output h c.args.buffered.now (g.K.Sink.state c.args.out.now))

pub read_some-requires-clause-reads : goal.read_some-requires-clause-reads
read_some-requires-clause-reads g c = let r = c.requires.has in (r.0, r.1, (c.in_ok-give_up.ensures c.args.self.now.value_task r.0 r.1 r.2).0, r.3)

pub returns-clause-feeds : goal.returns-clause-feeds
returns-clause-feeds g c =
    let old = c.args.self.now in
    let r = c.requires.has in
    let (read, checked, none) = c.in_ok-give_up.ensures old.value_task r.0 r.1 r.2 in
    let values = c.read_some.new.self in
    let stream_check = c.give_up.new.stream_check in
    feeds_weaker (commands declared_types) (task_of old.value_task) (HasRead old.value_task c.give_up.new.values) (HasTaken old.value_task old.values old.stream_check) (HasRead old.value_task values) (HasTaken old.value_task values stream_check) c.args.buffered.now
    (change (g.K.Sink.state c.args.out.now) (g.K.Sink.state c.read_some.new.out)) c.read_some.result
    (λ taken output h. (c.in_ok-give_up.ensures old.value_task taken output h).0) (λ taken output h. read_taken old.value_task values stream_check taken output none (checked_any old.value_task c.give_up.new.values values stream_check none checked) h) c.read_some.ensures
