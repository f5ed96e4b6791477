use Rattle.std.proofs.Common.{ℕ, ◌≡◌, ◌∙◌, ◌++◌, List, ap, subst}
use Rattle.base_io.specs.StreamState.{change}
use Rattle.text_decimal.specs.declared.texts.decimals.Decimal.{Decimal}
use Rattle.text_decimal.specs.texts.PlainTexts.{decimals_in, plain_text}
use Rattle.run_types.specs.RequestedTexts.{type_over}
use Rattle.cmd_build.specs.command.InputLines.{plain_texts, known_on}
use Rattle.cmd_build.specs.command.LineSteps.{WritesBy}
use Rattle.cmd_build.proofs.command.literal_line.write_given.Goals as goal

pub returns : goal.returns
returns g c =
    let t = type_over c.args.requested.now in
    let out = change (g.K.Sink.state c.args.out.now) (g.K.Sink.state c.write_text.new.out) in
    let text : c.as_slice.result.now ≡ plain_text c.args.line.now =
    c.as_slice.ensures.value
    ∙ (c.in_ok-decimals.ensures.text
    ∙ ap (λ (l : List ℕ). l ++ plain_text c.args.line.now) c.clear.ensures.items) in
    let decimals : c.as_slice-2.result.now ≡ decimals_in c.args.line.now =
    c.as_slice-2.ensures.value ∙ c.in_ok-decimals.ensures.decimals in
    subst (λ (ds : List Decimal). WritesBy (plain_texts t (known_on t.lines ds)
    (plain_text c.args.line.now)) c.args.number c.args.texts out c.write_text.result) decimals
    (subst (λ (l : List ℕ). WritesBy (plain_texts t (known_on t.lines c.as_slice-2.result.now) l)
    c.args.number c.args.texts out c.write_text.result) text c.write_text.ensures)
