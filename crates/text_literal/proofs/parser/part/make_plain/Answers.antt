use Rattle.std.proofs.Common.{sym, ap, ◌∙◌, subst}
use Rattle.std.specs.Prelude.{◌+◌, length, IfOk}
use Rattle.text_literal.specs.declared.literal_grammar.literal_node.LiteralNode.{LiteralNode}
use Rattle.text_literal.specs.literal_grammar.Literal.{label_kinds}
use Rattle.text_literal.specs.parser.Underway.{IsMade}
use Rattle.text_literal.proofs.parser.part.make_plain.Goals as goal

pub returns-then-node-eq0-clause-made : goal.returns-then-node-eq0-clause-made
returns-then-node-eq0-clause-made c k l p there is led =
    subst (λ start. IfOk c.make_leaf.result (IsMade c.args.node.parts start c.args.heap.now c.make_leaf.new.heap))
    (c.leaf_at.ensures.leaf (k + length (label_kinds l)) p led (sym (ap (λ (n : LiteralNode). n.parts) is) ∙ c.if-node-eq0.true))
    (c.make_leaf.ensures.made c.args.node.parts)
