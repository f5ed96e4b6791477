use Rattle.std.proofs.Common.{List, ◌∙◌, ap}
use Rattle.std.specs.Prelude.{slice_set}
use Rattle.text_literal.specs.declared.literal_grammar.literal_node.LiteralNode.{LiteralNode}
use Rattle.text_literal.proofs.literal_grammar.SmallLemmas.{write}
use Rattle.text_literal.proofs.literal_grammar.literal_nodes.LiteralNodes.set.Goals as goal

pub returns-then-k-len : goal.returns-then-k-len
returns-then-k-len c =
    write c.self.inside.others.items c.hold.new.others.items c.self.inside.small.items c.args.node c.in_ok-small.small c.args.k c.hold.ensures.kept c.self.invariant c.in_ok-small.ensures.held
    ∙ ap (λ (ns : List LiteralNode). slice_set ns c.args.k c.args.node) c.self.view_is
