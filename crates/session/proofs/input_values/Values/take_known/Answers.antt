use Rattle.std.proofs.Common.{◌+◌, ◌∷◌, [], ◌++◌, take, subst, sym, arith}
use Rattle.std.specs.Prelude.{◌&&◌}
use Rattle.base_io.specs.StreamState.{change}
use Rattle.run_spec.specs.value_commands.Tasks.{commands}
use Rattle.cli_spec.specs.Outcome.{Output}
use Rattle.cli_errors.specs.declared.exit_line.Error.TheVariants.{WriteFault}
use Rattle.run_loop.specs.work.Works.{AbortsIn}
use Rattle.run_loop.proofs.work.WorkChunkLemmas.{feeds_error}
use Rattle.run_types.specs.Language.{declared_types}
use Rattle.session.specs.FastCheck.{Later, verdict_value_task}
use Rattle.session.specs.InputValues.{HasRead, task_of}
use Rattle.run_spec.proofs.runs.RunValueLemmas.{texts_of-one}
use Rattle.session.proofs.FastCheckLemmas.{known_read, known_fault, room_for_seen}
use Rattle.session.proofs.input_values.Values.take_known.Goals as goal

pub overflow_add-self : goal.overflow_add-self
overflow_add-self g c =
    let r = c.requires.short in
    let room = room_for_seen (verdict_value_task c.args.requested c.args.limit) r.0 r.1 c.args.self.now r.2 r.3 in omega (arith, room)

pub returns-in_err-write_all : goal.returns-in_err-write_all
returns-in_err-write_all g c = λ kept are_bytes prefix is.
    let w = verdict_value_task c.args.requested c.args.limit in
    let next : Output = record { text = c.args.line.now; ok = c.args.is_all_ok } in
    feeds_error (commands declared_types) (task_of w) (Later kept (HasRead w c.args.self.now)) (HasRead w c.args.self.now) c.args.buffered.now
    (change (g.K.Sink.state c.args.out.now) (g.K.Sink.state c.write_all.new.sink)) WriteFault c.from_residual.result c.from_residual.ensures.1
    (λ taken output (before, whole, h).
    subst (λ bytes. AbortsIn (commands declared_types) (task_of w) bytes c.args.buffered.now output (change (g.K.Sink.state c.args.out.now) (g.K.Sink.state c.write_all.new.sink)) WriteFault) (sym whole)
    (known_fault c.args.requested c.args.limit before output c.args.self.now h c.requires.between kept c.args.buffered.now c.args.n next is are_bytes prefix (g.K.Sink.state c.args.out.now)
    (g.K.Sink.state c.write_all.new.sink) c.in_err-write_all.ensures.writes))

pub returns : goal.returns
returns g c = λ kept are_bytes prefix is.
    let w = verdict_value_task c.args.requested c.args.limit in
    let next : Output = record { text = c.args.line.now; ok = c.args.is_all_ok } in
    let old = c.args.self.now in (
      c.requires.some,
      c.requires.within,
      λ taken output (before, whole, h). (
        next ∷ [],
        omega arith,
        subst (λ bytes. HasRead w (record old { ok = old.ok && next.ok; last = next.ok; count = old.count + 1 }) (bytes ++ take c.args.n c.args.buffered.now) (output ++ next ∷ [])) (sym whole)
            (known_read c.args.requested c.args.limit before output c.args.self.now h c.requires.between kept c.args.buffered.now c.args.n next is),
        rw (texts_of-one next) c.in_ok-write_all.ensures.writes,
      ),
    )
