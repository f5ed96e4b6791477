use Rattle.std.proofs.Common.{Option, subst}
use Rattle.std.specs.Prelude.{IfSome}
use Rattle.base_data.specs.declared.model.value.Val.{Val}
use Rattle.run_types.specs.RequestedTexts.{type_over}
use Rattle.cmd_build.specs.command.Guessed.{IsRight}
use Rattle.cmd_build.specs.command.InputLines.{known_on}
use Rattle.cmd_build.proofs.command.literal_line.write_text.Goals as goal

pub returns-in-Some : goal.returns-in-Some
returns-in-Some g c =
    c.write_right.ensures (type_over c.args.requested.now)
    (known_on c.args.requested.now.lines c.args.decimals.now) c.args.text.now c.args.number
    (subst (λ (found : Option Val).
    IfSome found (IsRight (type_over c.args.requested.now) c.args.text.now c.guess_line.new.heap))
    c.in-Some.is c.in_ok-root.ensures)
