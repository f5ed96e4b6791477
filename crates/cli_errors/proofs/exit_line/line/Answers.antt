use Rattle.std.proofs.Common.{◌∙◌}
use Rattle.std.proofs.lemmas.Result.{IfOk-weaker}
use Rattle.cli_errors.proofs.ErrorLineLemmas.{line_is}
use Rattle.cli_errors.proofs.exit_line.line.Goals as goal

pub returns-in_default : goal.returns-in_default
returns-in_default c =
    IfOk-weaker c.text_line_of.result _ _
    (λ line is. is ∙ line_is c.args.exit.now c.in_default.not-Finished) c.text_line_of.ensures
