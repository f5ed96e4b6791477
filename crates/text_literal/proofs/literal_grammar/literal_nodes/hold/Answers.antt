use Rattle.std.proofs.Common.{◌≡◌, List, [], ◌∷◌, length, length-append, sym, ap, subst, arith, rules}
use Rattle.text_literal.specs.declared.literal_grammar.literal_node.LiteralNode.{LiteralNode}
use Rattle.text_literal.specs.literal_grammar.SmallNodes.{Keeps}
use Rattle.text_literal.proofs.literal_grammar.SmallLemmas.{keeps_more, last_found}
use Rattle.text_literal.proofs.literal_grammar.literal_nodes.hold.Goals as goal

pub returns-clause-kept : goal.returns-clause-kept
returns-clause-kept c =
    subst (λ (ns : List LiteralNode). Keeps c.args.others.now.items ns) (sym c.in_ok-push.ensures.items) (keeps_more c.args.others.now.items (c.args.node ∷ []))

pub returns-clause-held : goal.returns-clause-held
returns-clause-held c =
    let last : c.len-number.result ≡ length c.args.others.now.items = search rules in (
      last_found c.args.others.now.items c.push.new.self.items c.args.node c.len-number.result last c.in_ok-push.ensures.items,
      omega (arith, last, ap (λ (ns : List LiteralNode). length ns) c.in_ok-push.ensures.items, length-append c.args.others.now.items (c.args.node ∷ [])),
    )
