use Rattle.std.proofs.Common.{◌∷◌, [], arith}
use Rattle.base_io.specs.StreamState.{change}
use Rattle.run_spec.specs.value_commands.Tasks.{commands}
use Rattle.cli_errors.specs.declared.exit_line.Error.TheVariants.{WriteFault}
use Rattle.run_loop.proofs.work.WorkChunkLemmas.{feeds_error}
use Rattle.run_types.specs.Language.{declared_types}
use Rattle.session.specs.declared.input_values.ValueTask.TheVariants.{Edit}
use Rattle.session.specs.InputValues.{HasRead, task_of}
use Rattle.run_spec.proofs.runs.RunValueLemmas.{texts_of-one}
use Rattle.session.proofs.FastCheckLemmas.{write_output, left_read, left_fault, room_for_seen}
use Rattle.session.proofs.input_values.Values.take_left.Goals as goal

pub overflow_add-self : goal.overflow_add-self
overflow_add-self g c =
    let r = c.requires.short in
    let room = room_for_seen (Edit c.args.edits c.args.limit) r.0 r.1 c.args.self.now r.2 r.3 in omega (arith, room)

pub returns-in_err-write_all : goal.returns-in_err-write_all
returns-in_err-write_all g c =
    let w = Edit c.args.edits c.args.limit in
    feeds_error (commands declared_types) (task_of w) (HasRead w c.args.self.now) (HasRead w c.args.self.now) c.args.buffered.now
    (change (g.K.Sink.state c.args.out.now) (g.K.Sink.state c.write_all.new.sink)) WriteFault c.from_residual.result c.from_residual.ensures.1
    (λ taken output h. left_fault c.args.edits c.args.limit taken output c.args.self.now h c.requires.between c.args.buffered.now c.args.n c.requires.left c.requires.unchanged
    (g.K.Sink.state c.args.out.now) (g.K.Sink.state c.write_all.new.sink) c.in_err-write_all.ensures.writes)

pub returns : goal.returns
returns g c =
    let seen = c.requires.unchanged in (
      c.requires.some,
      seen.within,
      λ taken output h.
          let output_now = write_output c.args.edits c.args.limit taken output c.args.self.now h c.requires.between c.args.buffered.now c.args.n c.requires.left seen in (
            output_now ∷ [],
            omega arith,
            left_read c.args.edits c.args.limit taken output c.args.self.now h c.requires.between c.args.buffered.now c.args.n c.requires.left seen,
            rw (texts_of-one output_now) c.in_ok-write_all.ensures.writes,
          ),
    )
