use Rattle.std.proofs.Common.{◌≡◌, List, map, subst}
use Rattle.types_table.proofs.store.StoreHeldLemmas.{Grows-then}
use Rattle.types_wellformed.specs.brackets.Trees.{typed_item, written_item}
use Rattle.types_wellformed.specs.declared.head_rules.item.NumberedItem.{NumberedItem}
use Rattle.types_wellformed.specs.head_rules.Rules.{items_at}
use Rattle.types_wellformed.proofs.head_rules.HeadRuleTagLemmas.{more_brackets}
use Rattle.types_wellformed.proofs.head_rules.tags.all_tagged.Goals as goal

pub loop-items-preserved : goal.loop-items-preserved
loop-items-preserved c =
    let here = subst
    (λ (items : List NumberedItem). map (typed_item c.tagged_items.new.types) c.in_ok-tagged.tagged
    ≡ map (written_item c.args.decls.now) (items_at c.loop-items.types items))
    c.as_slice.ensures c.in_ok-tagged.ensures.ok in
    record {
      grown = Grows-then c.args.types.now c.loop-items.types c.tagged_items.new.types c.loop-items.invariant.grown
          c.in_ok-tagged.ensures.grown;
      heads = c.in_ok-tagged.ensures.heads;
      same = more_brackets c.args.decls.now c.args.types.now c.loop-items.types c.tagged_items.new.types
          c.args.brackets.now c.loop-items.items-index c.items-item.result c.loop-items.all c.push.new.self
          c.in_ok-tagged.tagged c.loop-items.invariant.grown c.in_ok-tagged.ensures.grown c.requires.within
          c.loop-items-test.true c.items-item.is c.in_ok-push.ensures.ok here c.loop-items.invariant.same;
    }
