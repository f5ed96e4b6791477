use Rattle.std.proofs.Common.{◌∙◌, ap, sym, subst}
use Rattle.text_path.specs.LineOrder.{ScriptLines, lines_of, positions_of, lines_at, AreWithin}
use Rattle.text_path.proofs.PathOrderLemmas.{found_within, found_lines}
use Rattle.text_path.proofs.edits.Script.lines_of.Goals as goal

pub invariant_of-result : goal.invariant_of-result
invariant_of-result c =
    subst (λ lines. AreWithin lines c.positions_of.result.now) (sym c.as_slice.ensures)
    (found_within c.self.inside.lines c.self.inside.order.items c.self.invariant.0 c.args.value c.positions_of.result.now
    (c.positions_of.ensures ∙ ap (positions_of c.args.value) c.as_slice-2.ensures.value))

pub returns : goal.returns
returns c =
    ap (λ lines. lines_at lines c.positions_of.result.now) c.as_slice.ensures
    ∙ (found_lines c.self.inside.lines c.self.inside.order.items c.self.invariant.0 c.args.value c.positions_of.result.now
    (c.positions_of.ensures ∙ ap (positions_of c.args.value) c.as_slice-2.ensures.value)
    ∙ ap (λ (s : ScriptLines). lines_of c.args.value s.lines) c.self.view_is)
