use Rattle.std.proofs.Common.{sym, ap, ◌∙◌}
use Rattle.std.specs.Prelude.{option_and_then, slice_get}
use Rattle.text_literal.specs.declared.literal_grammar.literal_node.LiteralNode.{LiteralNode}
use Rattle.text_literal.proofs.parser.LiteralParserPlacedLemmas.{again_given}
use Rattle.text_literal.proofs.parser.part.again.Goals as goal

pub returns-in-Some : goal.returns-in-Some
returns-in-Some c k n t graph is all =
    again_given c.args.text.now k n t graph c.args.labels.now all c.in-Some.o
    (sym (c.object_of.ensures ∙ ap (λ (node : LiteralNode). option_and_then (slice_get c.args.labels.now) node.label) is) ∙ c.in-Some.is)
