use Rattle.std.proofs.Common.{◌-◌, ◌+◌, ◌∙◌, arith, rules, sym, ap}
use Rattle.std.proofs.lemmas.Option.{get_or_from_slice_get}
use Rattle.text_literal.specs.declared.literal_grammar.literal_node.LiteralNode.{LiteralNode}
use Rattle.text_literal.specs.parser.SubtreeEnds.{sibling}
use Rattle.text_literal.proofs.parser.EndsLemmas.{ends_none, ends_all, ends_more}
use Rattle.text_literal.proofs.parser.siblings.subtree_ends.Goals as goal

pub loop-i-init : goal.loop-i-init
loop-i-init c = (search rules, ends_none c.args.nodes.now c.in_ok-ends.ends.items _ (omega arith))

pub loop-i-preserved : goal.loop-i-preserved
loop-i-preserved c = (
  search rules,
  ends_more c.args.nodes.now c.loop-i.ends.items c.as_slice.result.now (c.loop-i.i - 1) c.sibling-end.result c.get.result c.loop-i.invariant.0
      (omega (arith, c.loop-i-test.true, c.loop-i.auto.i)) c.as_slice.ensures.value
      (c.sibling-end.ensures ∙ ap (λ (n : LiteralNode). sibling c.as_slice.result.now (c.loop-i.i - 1 + 1) n.parts) (sym (get_or_from_slice_get c.args.nodes.now (c.loop-i.i - 1) c.get.result c.get.result c.get.ensures)))
      (λ j k v low. c.loop-i.invariant.1 j k v (omega (arith, low))),
)

pub returns-clause-ends : goal.returns-clause-ends
returns-clause-ends c =
    ends_all c.args.nodes.now c.loop-i.ends.items (λ j k v low. c.loop-i.invariant.1 j k v (omega (arith, c.loop-i-test.false)))
