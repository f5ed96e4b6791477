use Rattle.std.proofs.Common.{subst}
use Rattle.std.specs.Prelude.{IfOk}
use Rattle.base_data.specs.lines.Lines.{position_on}
use Rattle.text_roundtrip.specs.declared.text_lines.text_reader.TextFault.{TextFault}
use Rattle.cmd_build.specs.command.LineSteps.{IsFaultText}
use Rattle.cmd_build.proofs.command.BuildStepLemmas.{known_moved}
use Rattle.cmd_build.proofs.command.line_fault.line_fault_text.Goals as goal

pub returns : goal.returns
returns c =
    known_moved c.args.table.now c.args.lines c.args.decimals.now c.args.number c.args.fault
    c.placed_fault_text.result
    (subst (λ (f : TextFault). IfOk c.placed_fault_text.result
    (IsFaultText c.args.table.now (position_on c.args.lines c.args.number) f)) c.in_ok-given.ensures
    c.placed_fault_text.ensures)
