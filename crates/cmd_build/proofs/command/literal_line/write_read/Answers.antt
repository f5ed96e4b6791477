use Rattle.std.proofs.Common.{Some, Ok, subst}
use Rattle.base_io.specs.StreamState.{change}
use Rattle.run_types.specs.RequestedTexts.{type_over}
use Rattle.cmd_build.specs.command.InputLines.{known_on}
use Rattle.cmd_build.specs.command.LineSteps.{ReadsLine}
use Rattle.cmd_build.proofs.command.BuildStepLemmas.{line_aborts, read_aborts, value_counts}
use Rattle.cmd_build.proofs.command.literal_line.write_read.Goals as goal

pub returns-in_err-read_line : goal.returns-in_err-read_line
returns-in_err-read_line g c =
    let known = known_on c.args.requested.now.lines c.args.decimals.now in
    line_aborts c.args.requested.now known c.args.text.now c.args.number c.args.texts
    (change (g.K.Sink.state c.args.out.now) (g.K.Sink.state c.args.out.now))
    c.in_err-read_line.field-0.0 c.from_residual.result c.from_residual.ensures.1
    (read_aborts c.args.requested.now known c.args.text.now c.args.number c.args.texts
    c.read_line.new.heap (g.K.Sink.state c.args.out.now) c.in_err-read_line.field-0.0
    c.in_err-read_line.ensures)

pub returns-in_err-write_value-in-Some : goal.returns-in_err-write_value-in-Some
returns-in_err-write_value-in-Some g c =
    let known = known_on c.args.requested.now.lines c.args.decimals.now in
    let read : ReadsLine (type_over c.args.requested.now) known c.args.text.now c.args.number
    c.read_line.new.heap (Ok (Some c.in-Some.root)) =
    subst (λ v. ReadsLine (type_over c.args.requested.now) known c.args.text.now c.args.number
    c.read_line.new.heap (Ok v)) c.in-Some.is c.in_ok-read_line.ensures in
    line_aborts c.args.requested.now known c.args.text.now c.args.number c.args.texts
    (change (g.K.Sink.state c.args.out.now) (g.K.Sink.state c.write_value.new.out))
    c.in_err-write_value-in-Some.field-0.0 c.from_residual-in_err-write_value-in-Some.result
    c.from_residual-in_err-write_value-in-Some.ensures.1
    (c.in_err-write_value-in-Some.ensures c.args.text.now known c.args.number read.1)

pub returns-in_ok-write_value-in-Some : goal.returns-in_ok-write_value-in-Some
returns-in_ok-write_value-in-Some g c =
    let known = known_on c.args.requested.now.lines c.args.decimals.now in
    let read : ReadsLine (type_over c.args.requested.now) known c.args.text.now c.args.number
    c.read_line.new.heap (Ok (Some c.in-Some.root)) =
    subst (λ v. ReadsLine (type_over c.args.requested.now) known c.args.text.now c.args.number
    c.read_line.new.heap (Ok v)) c.in-Some.is c.in_ok-read_line.ensures in
    value_counts c.args.requested.now known c.args.text.now c.args.number c.args.texts
    (change (g.K.Sink.state c.args.out.now) (g.K.Sink.state c.write_value.new.out))
    (c.in_ok-write_value-in-Some.ensures c.args.text.now known c.args.number read.1)
