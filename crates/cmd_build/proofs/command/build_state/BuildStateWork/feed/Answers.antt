use Rattle.std.proofs.Common.{◌+◌, [], ◌∷◌, ◌++◌, drop, inr, refl, sym, subst, arith}
use Rattle.cli_spec.specs.declared.exit.Exit.TheVariants.{Memory as out_of_memory}
use Rattle.base_io.specs.Sink.{Writes}
use Rattle.base_io.specs.StreamState.{change}
use Rattle.run_spec.proofs.runs.RunWriteLemmas.{writes_nothing}
use Rattle.run_spec.proofs.runs.RunValueLemmas.{texts_of-one}
use Rattle.cli_errors.specs.declared.exit_line.Error.TheVariants as aborts
use Rattle.run_loop.specs.work.Works.{AbortsIn}
use Rattle.run_loop.proofs.work.WorkChunkLemmas.{feeds_error}
use Rattle.run_types.specs.Language.{declared_types}
use Rattle.run_types.specs.RequestedTexts.{type_over}
use Rattle.cmd_build.specs.spec.InputTexts.{building}
use Rattle.cmd_build.specs.command.InputLines.{declared_texts}
use Rattle.cmd_build.specs.command.LineSteps.{HasTexts}
use Rattle.cmd_build.proofs.command.BuildFeedLemmas.{feed_at, take_whole}
use Rattle.cmd_build.proofs.command.TextsLemmas.{texts_hold, texts_go_on, unbroken_by}
use Rattle.cmd_build.proofs.command.build_state.BuildStateWork.feed.Goals as goal

pub returns-in_err-take_line-in-Some-clause-feeds :
    goal.returns-in_err-take_line-in-Some-clause-feeds
returns-in_err-take_line-in-Some-clause-feeds g c = λ reads.
    let s = c.args.self.now in
    let t = c.take_line.new.self in
    let n = c.in-Some.n in
    let at = feed_at c.args.chunk.now n c.in-Some.ensures.0.high c.in-Some.ensures.0.before
    c.in-Some.ensures.1 in
    let out = change (g.K.Sink.state c.args.out.now) (g.K.Sink.state c.take_line.new.out) in
    let error = c.in_err-take_line-in-Some.field-0.0 in
    feeds_error (building declared_types declared_texts) (type_over s.requested.now)
    (HasTexts s.requested.now s.held.items s.lines s.texts)
    (HasTexts t.requested.now t.held.items t.lines t.texts) c.args.chunk.now out error
    c.from_residual.result c.from_residual.ensures.1
    (λ bytes output h. subst (λ b. AbortsIn (building declared_types declared_texts)
    (type_over s.requested.now) bytes b output out error) (sym at.all)
    (c.in_err-take_line-in-Some.ensures.takes (drop (n + 1) c.args.chunk.now) bytes output h))

pub returns-in_err-write-in-None-clause-feeds : goal.returns-in_err-write-in-None-clause-feeds
returns-in_err-write-in-None-clause-feeds g c = λ reads.
    let s = c.args.self.now in
    let out = change (g.K.Sink.state c.args.out.now) (g.K.Sink.state c.args.out.now) in
    feeds_error (building declared_types declared_texts) (type_over s.requested.now)
    (HasTexts s.requested.now s.held.items s.lines s.texts)
    (HasTexts s.requested.now c.write.new.text.items s.lines s.texts) c.args.chunk.now out
    (aborts.Exit out_of_memory) c.from_residual-in_err-write-in-None.result
    c.from_residual-in_err-write-in-None.ensures.1
    (λ bytes output h. (
      texts_hold s.requested.now s.held.items s.lines s.texts bytes output h,
      inr refl,
      writes_nothing (g.K.Sink.state c.args.out.now),
    ))

pub returns-in_ok-take_line-in-Some-clause-feeds :
    goal.returns-in_ok-take_line-in-Some-clause-feeds
returns-in_ok-take_line-in-Some-clause-feeds g c = λ reads.
    let t = c.take_line.new.self in
    let n = c.in-Some.n in
    let at = feed_at c.args.chunk.now n c.in-Some.ensures.0.high c.in-Some.ensures.0.before
    c.in-Some.ensures.1 in
    let out = change (g.K.Sink.state c.args.out.now) (g.K.Sink.state c.take_line.new.out) in (
      omega arith,
      at.within,
      λ bytes output h.
          let e = c.in_ok-take_line-in-Some.ensures.takes bytes output h in (
            e.0 ∷ [],
            omega arith,
            subst (λ b. HasTexts t.requested.now t.held.items t.lines t.texts (bytes ++ b)
                (output ++ e.0 ∷ [])) (sym at.prefix) e.1,
            subst (λ text. Writes out text) (sym (texts_of-one e.0)) e.2,
          ),
    )

pub returns-in_ok-write-in-None-clause-feeds : goal.returns-in_ok-write-in-None-clause-feeds
returns-in_ok-write-in-None-clause-feeds g c = λ reads.
    let s = c.args.self.now in (
      c.requires.some,
      omega arith,
      λ bytes output h. (
        [],
        omega arith,
        subst (λ b. HasTexts s.requested.now c.write.new.text.items s.lines s.texts (bytes ++ b)
            (output ++ [])) (sym (take_whole c.args.chunk.now))
            (texts_go_on s.requested.now s.held.items s.lines s.texts bytes output h
            c.args.chunk.now c.write.new.text.items
            (unbroken_by c.args.chunk.now c.in-None.ensures) c.in_ok-write-in-None.ensures),
        writes_nothing (g.K.Sink.state c.args.out.now),
      ),
    )
