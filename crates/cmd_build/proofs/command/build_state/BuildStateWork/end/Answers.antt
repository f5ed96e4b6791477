use Rattle.std.proofs.Common.{◌+◌, Ok, refl, subst, arith}
use Rattle.base_io.specs.StreamState.{change}
use Rattle.run_loop.proofs.work.WorkChunkLemmas.{ends_error}
use Rattle.run_types.specs.Language.{declared_types}
use Rattle.run_types.specs.RequestedTexts.{type_over}
use Rattle.cmd_build.specs.spec.InputTexts.{building}
use Rattle.cmd_build.specs.command.InputLines.{declared_texts}
use Rattle.cmd_build.specs.command.LineSteps.{AbortsAtLine, WritesLine, HasTexts}
use Rattle.cmd_build.proofs.command.TextsLemmas.{lines_few, texts_few, ends_ok, ends_error_at}
use Rattle.cmd_build.proofs.command.build_state.BuildStateWork.end.Goals as goal

pub overflow_add-self : goal.overflow_add-self
overflow_add-self g c =
    let s = c.args.self.now in
    let few = lines_few s.requested.now s.held.items s.lines s.texts c.requires.0 c.requires.1
    c.requires.2 in
    let short = c.requires.3 in omega (arith, few, short)

pub write_line-requires : goal.write_line-requires
write_line-requires g c =
    let s = c.args.self.now in
    let few = texts_few s.requested.now s.held.items s.lines s.texts c.requires.0 c.requires.1
    c.requires.2 in
    let short = c.requires.3 in record { few = omega (arith, few, short) }

pub returns-in_err-write_line : goal.returns-in_err-write_line
returns-in_err-write_line g c =
    let s = c.args.self.now in
    let out = change (g.K.Sink.state c.args.out.now) (g.K.Sink.state c.write_line.new.out) in
    let error = c.in_err-write_line.field-0.0 in
    ends_error (building declared_types declared_texts) (type_over s.requested.now)
    (HasTexts s.requested.now s.held.items s.lines s.texts) out error c.from_residual.result
    c.from_residual.ensures.1
    (λ bytes output h. ends_error_at s.requested.now s.held.items s.lines s.texts bytes output h
    (s.lines + 1) out error refl
    (subst (λ l. AbortsAtLine (type_over s.requested.now) l (s.lines + 1) s.texts out error)
    c.as_slice-line.ensures.value c.in_err-write_line.ensures))

pub returns : goal.returns
returns g c = λ bytes output h.
    let s = c.args.self.now in
    let out = change (g.K.Sink.state c.args.out.now) (g.K.Sink.state c.write_line.new.out) in
    let e = subst (λ l. WritesLine (type_over s.requested.now) l (s.lines + 1) s.texts out
    (Ok c.in_ok-write_line.field-0)) c.as_slice-line.ensures.value c.in_ok-write_line.ensures in
    ends_ok s.requested.now s.held.items s.lines s.texts bytes output h e.0 e.2 out e.1 e.3 e.4
