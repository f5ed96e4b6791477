use Rattle.std.proofs.Common.{◌∙◌, ℕ, Option, ap, subst}
use Rattle.base_io.specs.StreamState.{change}
use Rattle.cli_spec.specs.Outcome.{Task}
use Rattle.text_path.specs.declared.edits.ScriptLine.{ScriptLine}
use Rattle.run_types.specs.Language.{TypeOver}
use Rattle.opt_skip_only.specs.declared.skip.skip_command.Over.{Over}
use Rattle.opt_skip_only.specs.skip.SkipCommand.{passed_of}
use Rattle.run_loop.specs.work.Reported.{HasAccount}
use Rattle.session.specs.All.{on_values_after}
use Rattle.session.specs.InputValues.{task_of}
use Rattle.session.proofs.top.take_values.Goals as goal

-- The operation, with the number given by `--only`.
abbrev act_of : Option ℕ → Task TypeOver ScriptLine → Option ℕ × Task TypeOver ScriptLine
act_of picked task = (picked, task)

pub returns : goal.returns
returns g c =
    let input = change (g.S.Source.state c.args.input.now) (g.S.Source.state c.run_reported.new.input) in
    let out = change (g.K.Sink.state c.args.out.now) (g.K.Sink.state c.run_reported.new.out) in
    let err = change (g.E.Sink.state c.args.err.now) (g.E.Sink.state c.run_reported.new.err) in
    let p = c.new-skip_command.result in
    let q = c.new-only_command.result in
    subst (λ (o : Over). HasAccount on_values_after (passed_of o, act_of c.args.only (task_of c.args.value_task)) input out err c.run_reported.result)
    c.new-skip_command.ensures.over
    (subst (λ act. HasAccount on_values_after (passed_of p.over, act) input out err c.run_reported.result)
    (c.new-skip_command.ensures.act
    ∙ (ap (λ picked. act_of picked (task_of q.work.value_task)) c.new-only_command.ensures.picked
    ∙ ap (λ task. act_of c.args.only task) (c.new-only_command.ensures.act ∙ ap (λ value_task. task_of value_task) c.new-work.ensures.value_task)))
    c.run_reported.ensures.account)
