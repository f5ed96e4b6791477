use Rattle.std.proofs.Common.{arith}
use Rattle.types_resolve.proofs.scope.ScopeLeastLemmas.{all_items}
use Rattle.types_table.proofs.store.StoreHeldLemmas.{Grows-then}
use Rattle.types_wellformed.specs.head_rules.Rules.{IncludesOtherAt}
use Rattle.types_wellformed.proofs.head_rules.VariantLemmas.{more_other}
use Rattle.types_wellformed.proofs.head_rules.variant.least_other.Goals as goal

pub loop-item-preserved : goal.loop-item-preserved
loop-item-preserved c = record {
  grown = Grows-then c.args.types.now c.loop-item.types c.includes_other.new.types c.loop-item.invariant.grown
      c.in_ok-other.ensures.grown;
  least = more_other c.args.decls.now c.args.types.now c.loop-item.types c.args.items.now c.loop-item.item-index
      (record { position = 0; number = 0 }) c.loop-item.best c.position_if.result c.earliest-best.result c.in_ok-other.other
      c.loop-item.invariant.grown c.requires.within c.loop-item-test.true c.loop-item.invariant.least
      c.in_ok-other.ensures.ok c.position_if.ensures c.earliest-best.ensures;
}

pub returns-clause-ok : goal.returns-clause-ok
returns-clause-ok c =
    all_items c.args.items.now (IncludesOtherAt c.args.decls.now c.args.types.now) c.loop-item.item-index
    c.loop-item.best (omega arith) c.loop-item-test.false c.loop-item.invariant.least
