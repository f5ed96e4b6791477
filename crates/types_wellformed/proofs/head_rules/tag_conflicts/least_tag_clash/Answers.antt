use Rattle.std.proofs.Common.{List, subst, arith}
use Rattle.types_resolve.specs.scope.Least.{IsLeast}
use Rattle.types_resolve.proofs.scope.ScopeLeastLemmas.{more_items, all_items}
use Rattle.types_wellformed.specs.declared.brackets.tag_item.TagItem.{TagItem}
use Rattle.types_wellformed.specs.brackets.TagItems.{ConflictsIn}
use Rattle.types_wellformed.proofs.head_rules.tag_conflicts.least_tag_clash.Goals as goal

pub loop-items-preserved : goal.loop-items-preserved
loop-items-preserved c =
    more_items c.args.brackets.now ConflictsIn c.loop-items.items-index c.items-item.result c.loop-items.best
    c.in_ok-least_conflict.field-0 c.earliest-best.result c.loop-items-test.true c.items-item.is c.loop-items.invariant
    (subst (λ (items : List TagItem). IsLeast (ConflictsIn items) c.in_ok-least_conflict.field-0) c.as_slice.ensures
    c.in_ok-least_conflict.ensures.least)
    c.earliest-best.ensures

pub returns : goal.returns
returns c =
    all_items c.args.brackets.now ConflictsIn c.loop-items.items-index c.loop-items.best (omega arith)
    c.loop-items-test.false c.loop-items.invariant
