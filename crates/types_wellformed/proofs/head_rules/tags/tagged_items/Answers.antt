use Rattle.std.proofs.Common.{◌∙◌, ap, map, refl}
use Rattle.std.specs.Prelude.{slice_get}
use Rattle.types_spec.specs.types.Table.{tag_with_part}
use Rattle.types_table.proofs.store.StoreHeldLemmas.{Grows-then}
use Rattle.types_wellformed.proofs.head_rules.HeadRuleTagLemmas.{head_tags, more_tagged}
use Rattle.types_wellformed.proofs.head_rules.tags.tagged_items.Goals as goal

pub loop-item-preserved : goal.loop-item-preserved
loop-item-preserved c =
    let types = c.item_head.new.types in
    let tags = ap (map (tag_with_part (slice_get types))) c.tags_in.ensures
    ∙ head_tags types c.in_ok-head.head _ c.in_ok-head.ensures.ok in
    record {
      grown = Grows-then c.args.types.now c.loop-item.types types c.loop-item.invariant.grown c.in_ok-head.ensures.grown;
      heads = c.in_ok-head.ensures.heads;
      same = more_tagged c.args.decls.now c.args.types.now c.loop-item.types types c.args.items.now c.loop-item.item-index
          (record { position = 0; number = 0 }) c.loop-item.all c.push.new.self _ c.loop-item.invariant.grown
          c.in_ok-head.ensures.grown c.requires.within c.loop-item-test.true c.in_ok-push.ensures.ok refl tags
          c.loop-item.invariant.same;
    }
