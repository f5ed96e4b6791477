use Rattle.std.proofs.Common.{sym, ap, ◌∙◌}
use Rattle.std.specs.Prelude.{◌+◌, ◌≡◌, length, IfOk}
use Rattle.text_literal.specs.declared.literal_grammar.literal_node.LiteralNode.{LiteralNode}
use Rattle.text_literal.specs.literal_grammar.Literal.{labelled, label_kinds}
use Rattle.text_literal.specs.parser.Openings.{opening_in}
use Rattle.text_literal.specs.parser.Standing.{Stands, lead_of_plain}
use Rattle.text_literal.specs.parser.Started.{start_in}
use Rattle.text_literal.specs.parser.Starts.{start_at}
use Rattle.text_literal.proofs.parser.LiteralParserStartLemmas.{tuple_only, applied_only, array_only, fields_only, no_other}
use Rattle.text_literal.proofs.parser.start.opening_start.Goals as goal

pub returns-in-Tuple-clause-start : goal.returns-in-Tuple-clause-start
returns-in-Tuple-clause-start c t k l p stands node lead =
    tuple_only (λ q. opening_in t c.tuple_opening.result ≡ start_at t c.args.shape.now c.args.names.now q) c.args.node.parts (k + length (label_kinds l))
    (λ ps u v many. c.tuple_opening.ensures.opening t ps u v many) p
    (sym c.in-Tuple.is ∙ ap (λ (n : LiteralNode). n.form) node) (ap (λ (n : LiteralNode). n.parts) node)

pub returns-in-Named-clause-start : goal.returns-in-Named-clause-start
returns-in-Named-clause-start c t k l p stands node lead =
    applied_only (λ q. c.args.kind.now ≡ lead_of_plain q → opening_in t c.applied_opening.result ≡ start_at t c.args.shape.now c.args.names.now q) c.args.node.parts (k + length (label_kinds l))
    (λ h ps v many led. c.applied_opening.ensures.opening t h ps v led many) p
    (sym c.in-Named.is ∙ ap (λ (n : LiteralNode). n.form) node) (ap (λ (n : LiteralNode). n.parts) node) c.requires.parts lead

pub returns-in-Array-clause-start : goal.returns-in-Array-clause-start
returns-in-Array-clause-start c t k l p stands node lead =
    array_only (λ q. Stands c.args.text.now.nodes.now c.args.text.now.lexemes.now c.args.j k (labelled l q) → IfOk c.array_start.result (λ start. start_in t start ≡ start_at t c.args.shape.now c.args.names.now q))
    c.args.node.parts (k + length (label_kinds l))
    (λ ps v there. c.array_start.ensures.start t k c.args.names.now l ps v there) p
    (sym c.in-Array.is ∙ ap (λ (n : LiteralNode). n.form) node) (ap (λ (n : LiteralNode). n.parts) node) c.requires.parts stands

pub returns-in-Fields-clause-start : goal.returns-in-Fields-clause-start
returns-in-Fields-clause-start c t k l p stands node lead =
    fields_only (λ q. Stands c.args.text.now.nodes.now c.args.text.now.lexemes.now c.args.j k (labelled l q) → c.args.kind.now ≡ lead_of_plain q
    → IfOk c.fields_start.result (λ start. start_in t start ≡ start_at t c.args.shape.now c.args.names.now q))
    c.args.node.parts (k + length (label_kinds l))
    (λ o rs x v many there led. c.fields_start.ensures.start t k l o rs x v there led many) p
    (sym c.in-Fields.is ∙ ap (λ (n : LiteralNode). n.form) node) (ap (λ (n : LiteralNode). n.parts) node) stands lead

pub returns-in_default : goal.returns-in_default
returns-in_default c = record {
  start = λ t k l p stands node lead.
      let form = ap (λ (n : LiteralNode). n.form) node in
      absurd (no_other c.args.node.parts (k + length (label_kinds l)) p (ap (λ (n : LiteralNode). n.parts) node) c.requires.parts
      (λ e. c.in_default.not-Tuple (form ∙ sym e)) (λ e. c.in_default.not-Named (form ∙ sym e)) (λ e. c.in_default.not-Array (form ∙ sym e)) (λ e. c.in_default.not-Fields (form ∙ sym e)));
  sound = tt;
}
