use Rattle.types_spec.specs.types.Ty.{tuple}
use Rattle.types_wellformed.proofs.head_rules.HeadRuleNumberedLemmas.{none_item, held_item, held_there}
use Rattle.types_wellformed.proofs.head_rules.item.item_number.Goals as goal

pub returns-else-n-nodes-clause-ok : goal.returns-else-n-nodes-clause-ok
returns-else-n-nodes-clause-ok c =
    held_item c.add_tuple.result c.add_tuple.new.self _ _
    (none_item c.args.nodes.now.all.now c.args.n c.if-n-nodes.false)
    (held_there c.add_tuple.result c.args.types.now c.add_tuple.new.self tuple c.add_tuple.ensures.ok)
