use Rattle.std.proofs.Common.{◌∙◌, true, false, sym}
use Rattle.base_io.specs.StreamState.{change}
use Rattle.run_types.specs.RequestedTexts.{type_over}
use Rattle.cmd_build.proofs.command.BuildStepLemmas.{line_written}
use Rattle.cmd_build.proofs.command.literal_line.write_line.Goals as goal

pub returns-then-decimal : goal.returns-then-decimal
returns-then-decimal g c =
    line_written (type_over c.args.requested.now) c.args.line.now c.args.number c.args.texts
    (change (g.K.Sink.state c.args.out.now) (g.K.Sink.state c.write_given.new.out))
    c.write_given.result true (sym c.decimal.ensures ∙ c.if-decimal.true) c.write_given.ensures

pub returns-else-decimal : goal.returns-else-decimal
returns-else-decimal g c =
    line_written (type_over c.args.requested.now) c.args.line.now c.args.number c.args.texts
    (change (g.K.Sink.state c.args.out.now) (g.K.Sink.state c.write_text.new.out))
    c.write_text.result false (sym c.decimal.ensures ∙ c.if-decimal.false) c.write_text.ensures
