use Rattle.std.proofs.Common.{List, subst, arith}
use Rattle.types_resolve.proofs.scope.ScopeLeastLemmas.{more_items, all_items}
use Rattle.types_wellformed.specs.declared.brackets.tag_item.TagItem.{TagItem}
use Rattle.types_wellformed.specs.brackets.Collisions.{position_of, IsLeastCollision}
use Rattle.types_wellformed.specs.brackets.TagItems.{CollidesIn}
use Rattle.types_wellformed.proofs.head_rules.HeadRuleLoopLemmas.{more_names}
use Rattle.types_wellformed.proofs.head_rules.tag_conflicts.least_hash_clash.Goals as goal

pub loop-items-preserved : goal.loop-items-preserved
loop-items-preserved c =
    let here = subst (λ (items : List TagItem). IsLeastCollision items c.in_ok-least_collision.field-0) c.as_slice.ensures
    c.in_ok-least_collision.ensures.least in
    record {
      least = more_items c.args.brackets.now CollidesIn c.loop-items.items-index c.items-item.result
          (position_of c.loop-items.best) (position_of c.in_ok-least_collision.field-0) (position_of c.nearer-best.result)
          c.loop-items-test.true c.items-item.is c.loop-items.invariant.least here.least c.nearer-best.ensures.position;
      names = more_names c.args.brackets.now c.loop-items.items-index c.items-item.result c.loop-items.best
          c.in_ok-least_collision.field-0 c.nearer-best.result c.loop-items-test.true c.items-item.is
          c.nearer-best.ensures.either c.loop-items.invariant.names here.names;
    }

pub returns : goal.returns
returns c = record {
  least = all_items c.args.brackets.now CollidesIn c.loop-items.items-index (position_of c.loop-items.best) (omega arith)
      c.loop-items-test.false c.loop-items.invariant.least;
  names = c.loop-items.invariant.names;
}
