use Rattle.types_spec.specs.types.TypeNodes.{types_of}
use Rattle.types_table.proofs.store.StoreHeldLemmas.{Grows-then}
use Rattle.types_table.proofs.store.StoreInstanceLemmas.{numbers_kept}
use Rattle.types_wellformed.proofs.head_rules.HeadRuleNumberedLemmas.{items_turn, all_items}
use Rattle.types_wellformed.proofs.head_rules.bracket_numbers.number_items.Goals as goal

pub number_item-requires : goal.number_item-requires
number_item-requires c = record {
  numbers = numbers_kept c.args.types.now c.loop-item.types (types_of c.args.nodes.now.all.now) c.args.numbers.now
      c.requires.numbers c.loop-item.invariant.grown;
}

pub loop-item-preserved : goal.loop-item-preserved
loop-item-preserved c =
    let tree = types_of c.args.nodes.now.all.now in
    record {
      grown = Grows-then c.args.types.now c.loop-item.types c.number_item.new.types c.loop-item.invariant.grown
          c.in_ok-number_item.ensures.grown;
      known = items_turn c.loop-item.types c.number_item.new.types tree c.loop-item.all c.push.new.self c.args.items.now
          c.loop-item.item-index (record { position = 0; node = 0 }) c.in_ok-number_item.field-0
          c.in_ok-number_item.ensures.grown c.loop-item-test.true c.in_ok-push.ensures.ok c.in_ok-number_item.ensures.ok
          c.loop-item.invariant.known;
    }

pub returns-clause-ok : goal.returns-clause-ok
returns-clause-ok c =
    all_items c.loop-item.types (types_of c.args.nodes.now.all.now) c.loop-item.all c.args.items.now c.loop-item.item-index
    c.loop-item-test.false c.loop-item.invariant.known
