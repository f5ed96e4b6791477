use Rattle.std.proofs.Common.{take, ◌++◌, [], ◌∷◌, ◌<◌, inl, subst, arith}
use Rattle.cli_spec.specs.declared.exit.Exit.TheVariants.{NotTwoValues}
use Rattle.base_io.specs.StreamState.{change}
use Rattle.run_spec.specs.value_commands.Tasks.{commands}
use Rattle.run_loop.proofs.work.WorkChunkLemmas.{feeds_error}
use Rattle.run_types.specs.Language.{declared_types}
use Rattle.session.specs.InputValues.{MayTake, IsFull, HasRead, task_of, word_limit}
use Rattle.run_spec.proofs.runs.RunWriteLemmas.{writes_nothing}
use Rattle.session.proofs.SessionReadLemmas.{whole_read, few_read, some_taken, prefix_read, next_aborts, exits_now, exits_in, full_exits}
use Rattle.run_spec.proofs.runs.RunValueLemmas.{texts_of-one}
use Rattle.session.proofs.input_values.Values.read_some.Goals.{then-fed+in_ok-write_value-in-Ok, else-fed}
use Rattle.session.proofs.input_values.Values.read_some.Goals as goal

pub returns-then-is_full : goal.returns-then-is_full
returns-then-is_full g c = λ taken output h.
    inl
    (exits_now c.args.value_task taken output c.args.self.now h c.args.rest.now NotTwoValues
    (full_exits c.args.value_task h.trees h.prefix c.args.rest.now (subst (λ n. IsFull c.args.value_task n) h.counted c.if-is_full.ensures) c.requires.some)
    (g.K.Sink.state c.args.out.now) (g.K.Sink.state c.args.out.now) (writes_nothing (g.K.Sink.state c.args.out.now)))

pub write_value-requires : goal.write_value-requires
write_value-requires g c =
    let r = c.requires.reads in
    let may = subst (λ n. MayTake c.args.value_task n) r.2.counted c.if-is_full.ensures in (
      r.0 ++ take c.in-Ok.fed.taken c.args.rest.now,
      r.1,
      whole_read c.args.value_task r.0 r.1 c.args.self.now r.2 c.args.rest.now c.feed.new.self c.in-Ok.fed (c.in-Ok.ensures.feeds (word_limit c.args.value_task) r.2.prefix r.2.leads) may c.if-fed.true,
      few_read c.args.value_task r.0 r.1 c.args.self.now r.2 c.args.rest.now c.feed.new.self c.in-Ok.fed (c.in-Ok.ensures.feeds (word_limit c.args.value_task) r.2.prefix r.2.leads) r.3,
    )

pub returns-in_err-write_value-in-Ok : goal.returns-in_err-write_value-in-Ok
returns-in_err-write_value-in-Ok g c =
    feeds_error (commands declared_types) (task_of c.args.value_task) (HasRead c.args.value_task c.args.self.now) (HasRead c.args.value_task c.write_value.new.self) c.args.rest.now
    (change (g.K.Sink.state c.args.out.now) (g.K.Sink.state c.write_value.new.out)) c.in_err-write_value-in-Ok.field-0.0 c.from_residual.result c.from_residual.ensures.1
    (λ taken output h.
    let may = subst (λ n. MayTake c.args.value_task n) h.counted c.if-is_full.ensures in
    let whole = whole_read c.args.value_task taken output c.args.self.now h c.args.rest.now c.feed.new.self c.in-Ok.fed (c.in-Ok.ensures.feeds (word_limit c.args.value_task) h.prefix h.leads) may c.if-fed.true in
    next_aborts c.args.value_task taken output c.args.self.now h c.args.rest.now c.in-Ok.fed.taken (g.K.Sink.state c.args.out.now) (g.K.Sink.state c.write_value.new.out) c.write_value.new.self c.in_err-write_value-in-Ok.field-0.0
    (c.in_err-write_value-in-Ok.ensures (taken ++ take c.in-Ok.fed.taken c.args.rest.now) output whole))

pub returns-after-fed : goal.returns-after-fed
returns-after-fed g c =
    let r = c.requires.reads in
    let fed = c.in-Ok.ensures.feeds (word_limit c.args.value_task) r.2.prefix r.2.leads in
    let some : 0 < c.in-Ok.fed.taken = elim c.if-fed.branch [
      | then-fed+in_ok-write_value-in-Ok w ↦ some_taken c.args.value_task r.0 r.1 c.args.self.now r.2 c.args.rest.now c.feed.new.self c.in-Ok.fed fed w.if-fed.true
      | else-fed w ↦ let all = (fed.more w.if-fed.false).0 in let few = c.requires.some in omega (arith, all, few)
    ] in (
      some,
      fed.within,
      λ taken output h.
          let f = c.in-Ok.ensures.feeds (word_limit c.args.value_task) h.prefix h.leads in
          let may = subst (λ n. MayTake c.args.value_task n) h.counted c.if-is_full.ensures in
          elim c.if-fed.branch [
            | then-fed+in_ok-write_value-in-Ok w ↦
                let whole = whole_read c.args.value_task taken output c.args.self.now h c.args.rest.now c.feed.new.self c.in-Ok.fed f may w.if-fed.true in
                let write = w.in_ok-write_value-in-Ok.ensures (taken ++ take c.in-Ok.fed.taken c.args.rest.now) output whole in
                (write.0 ∷ [], omega arith, rw (w.self-is) write.1, rw (w.out-is, texts_of-one write.0) write.2)
            | else-fed w ↦ (
              [],
              omega arith,
              rw (w.self-is) (prefix_read c.args.value_task taken output c.args.self.now h c.args.rest.now c.feed.new.self c.in-Ok.fed f may w.if-fed.false),
              rw (w.out-is) (writes_nothing (g.K.Sink.state c.args.out.now)),
            )
          ],
    )

pub returns-in-Err : goal.returns-in-Err
returns-in-Err g c = λ taken output h.
    inl
    (exits_now c.args.value_task taken output c.args.self.now h c.args.rest.now c.refused_value.result
    (exits_in c.args.value_task h.trees _ c.in-Err.refusal c.refused_value.result (subst (λ n. MayTake c.args.value_task n) h.counted c.if-is_full.ensures) (c.in-Err.ensures.refuses (word_limit c.args.value_task) h.prefix h.leads)
    (rw (← h.counted) c.refused_value.ensures))
    (g.K.Sink.state c.args.out.now) (g.K.Sink.state c.args.out.now) (writes_nothing (g.K.Sink.state c.args.out.now)))
