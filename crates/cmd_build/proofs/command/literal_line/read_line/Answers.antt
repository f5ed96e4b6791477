use Rattle.std.proofs.Common.{Ok, Err, subst}
use Rattle.types_table.specs.declared.type_table.tabled.Tabled.{Tabled}
use Rattle.text_roundtrip.specs.text_lines.TextAnswers.{ReadsText}
use Rattle.cmd_build.specs.command.InputLines.{known_on}
use Rattle.cmd_build.proofs.command.BuildStepLemmas.{line_read, line_exits}
use Rattle.cmd_build.proofs.command.literal_line.read_line.Goals as goal

pub returns-in-Ok : goal.returns-in-Ok
returns-in-Ok c =
    line_read c.args.requested.now c.holds.ensures
    (known_on c.args.requested.now.lines c.args.decimals.now) c.args.text.now c.read_text.new.heap
    c.args.number c.in-Ok.value
    (subst (λ (table : Tabled). ReadsText table c.args.text.now c.read_text.new.heap
    (Ok c.in-Ok.value)) c.table-table.ensures.same c.in-Ok.ensures.reads)

pub returns-in_ok-known-in-Err : goal.returns-in_ok-known-in-Err
returns-in_ok-known-in-Err c =
    line_exits c.args.requested.now c.holds.ensures
    (known_on c.args.requested.now.lines c.args.decimals.now) c.args.text.now c.read_text.new.heap
    c.args.number c.in-Err.fault c.in_ok-known-in-Err.known
    (rw (c.table-table.ensures.same, c.lines.ensures) at c.in_ok-known-in-Err.ensures)
    (subst (λ (table : Tabled). ReadsText table c.args.text.now c.read_text.new.heap
    (Err c.in-Err.fault)) c.table-table.ensures.same c.in-Err.ensures.reads)
