use Rattle.std.proofs.Common.{◌∙◌, ◌≡◌, length, subst, take, arith}
use Rattle.base_data.proofs.model.Lists.{take-whole}
use Rattle.clap.specs.Words.{app_of}
use Rattle.cli_args.specs.CommandSet.{program_with}
use Rattle.cli_args.proofs.CommandLemmas.{made_added, program_more}
use Rattle.cli_args.proofs.command_set.made_of.Goals as goal

pub loop-name-preserved : goal.loop-name-preserved
loop-name-preserved c =
    made_added c.loop-name.all c.made.result c.in_ok-all.all (program_with (take c.loop-name.name-index c.args.forms.now)) _ c.loop-name.invariant c.made.ensures c.in_ok-all.ensures
    ∙ program_more c.args.forms.now c.loop-name.name-index _ c.loop-name-test.true

pub returns : goal.returns
returns c =
    let end : c.loop-name.name-index ≡ length c.args.forms.now = omega arith in
    subst (λ fs. app_of c.loop-name.all ≡ program_with fs) (take-whole c.args.forms.now c.loop-name.name-index end) c.loop-name.invariant
