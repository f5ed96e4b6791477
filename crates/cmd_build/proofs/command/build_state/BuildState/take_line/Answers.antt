use Rattle.std.proofs.Common.{◌+◌, ◌∙◌, [], ◌∷◌, ◌++◌, refl, sym, subst, arith}
use Rattle.cli_spec.specs.declared.exit.Exit.TheVariants.{Memory as out_of_memory}
use Rattle.base_io.specs.StreamState.{change}
use Rattle.run_spec.proofs.runs.RunWriteLemmas.{writes_nothing}
use Rattle.cli_errors.specs.declared.exit_line.Error.TheVariants as aborts
use Rattle.run_types.specs.RequestedTexts.{type_over}
use Rattle.cmd_build.specs.command.InputLines.{declared_texts}
use Rattle.cmd_build.specs.command.LineSteps.{HasTexts}
use Rattle.cmd_build.proofs.command.TextsLemmas.{lines_few, texts_few, line_taken, line_memory, line_aborts, takes_error}
use Rattle.cmd_build.proofs.command.build_state.BuildState.take_line.Goals as goal

pub returns-in_err-write-clause-takes : goal.returns-in_err-write-clause-takes
returns-in_err-write-clause-takes g c =
    let s = c.args.self.now in
    let out = change (g.K.Sink.state c.args.out.now) (g.K.Sink.state c.args.out.now) in
    takes_error (type_over s.requested.now)
    (HasTexts s.requested.now s.held.items s.lines s.texts)
    (HasTexts s.requested.now c.write.new.text.items s.lines s.texts) c.args.end.now out
    (aborts.Exit out_of_memory) c.from_residual.result c.from_residual.ensures.1
    (λ more bytes output h. line_memory s.requested.now s.held.items s.lines s.texts bytes output h
    c.args.end.now c.requires.unbroken more out out_of_memory refl
    (writes_nothing (g.K.Sink.state c.args.out.now)))

pub overflow_add-self : goal.overflow_add-self
overflow_add-self g c =
    let s = c.args.self.now in
    let r = c.requires.has in
    let few = lines_few s.requested.now s.held.items s.lines s.texts r.0 r.1 r.2 in
    let short = r.3 in omega (arith, few, short)

pub write_line-requires : goal.write_line-requires
write_line-requires g c =
    let s = c.args.self.now in
    let r = c.requires.has in
    let few = texts_few s.requested.now s.held.items s.lines s.texts r.0 r.1 r.2 in
    let short = r.3 in record { few = omega (arith, few, short) }

pub returns-in_err-self-clause-takes : goal.returns-in_err-self-clause-takes
returns-in_err-self-clause-takes g c =
    let s = c.args.self.now in
    let out = change (g.K.Sink.state c.args.out.now) (g.K.Sink.state c.write_line.new.out) in
    let error = c.in_err-self.field-0.0 in
    takes_error (type_over s.requested.now)
    (HasTexts s.requested.now s.held.items s.lines s.texts)
    (HasTexts s.requested.now c.write.new.text.items s.lines s.texts) c.args.end.now out error
    c.from_residual-in_err-self.result c.from_residual-in_err-self.ensures.1
    (λ more bytes output h. line_aborts s.requested.now s.held.items s.lines s.texts bytes output h
    c.args.end.now c.requires.unbroken more c.as_slice-line.result.now (s.lines + 1) out error
    (c.as_slice-line.ensures.value ∙ c.in_ok-write.ensures) refl c.in_err-self.ensures)

pub overflow_add-self-2 : goal.overflow_add-self-2
overflow_add-self-2 g c =
    let s = c.args.self.now in
    let r = c.requires.has in
    let few = lines_few s.requested.now s.held.items s.lines s.texts r.0 r.1 r.2 in
    let short = r.3 in omega (arith, few, short)

pub returns-clause-takes : goal.returns-clause-takes
returns-clause-takes g c = λ bytes output h.
    let s = c.args.self.now in
    let e = c.in_ok-self.ensures in
    let line = c.as_slice-line.ensures.value ∙ c.in_ok-write.ensures in (
      e.2,
      subst (λ held. HasTexts s.requested.now held (s.lines + 1) c.in_ok-self.field-0
          (bytes ++ (c.args.end.now ++ 10 ∷ [])) (output ++ e.2 ∷ []))
          (sym c.clear.ensures.items)
          (line_taken s.requested.now s.held.items s.lines s.texts bytes output h c.args.end.now
          c.requires.unbroken e.0 e.2 c.in_ok-self.field-0 (s.lines + 1)
          (subst (λ l. declared_texts (type_over s.requested.now) l e.0) line e.1) e.3 e.5 refl),
      e.4,
    )
