use Rattle.std.proofs.Common.{◌∙◌, ◌≡◌, length, subst, take, arith}
use Rattle.base_data.proofs.model.Lists.{take-whole}
use Rattle.cli_args.specs.CommandSet.{Reports, app_with}
use Rattle.cli_args.proofs.CommandLemmas.{argument_added, with_more}
use Rattle.cli_args.proofs.command_set.made.Goals as goal

pub loop-argument-preserved : goal.loop-argument-preserved
loop-argument-preserved c =
    let added = argument_added c.loop-argument.command c.in_ok-command.command c.rule.result (app_with c.args.name.now (take c.loop-argument.argument-index c.args.arguments.now)) _
    c.loop-argument.invariant c.rule.ensures.rule c.rule.ensures.local c.in_ok-command.ensures in
    (added.0 ∙ with_more c.args.name.now c.args.arguments.now c.loop-argument.argument-index _ c.loop-argument-test.true, added.1)

pub returns : goal.returns
returns c =
    let end : c.loop-argument.argument-index ≡ length c.args.arguments.now = omega arith in
    subst (λ xs. Reports c.loop-argument.command (app_with c.args.name.now xs)) (take-whole c.args.arguments.now c.loop-argument.argument-index end) c.loop-argument.invariant
