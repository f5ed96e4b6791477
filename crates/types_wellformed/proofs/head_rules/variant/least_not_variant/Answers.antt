use Rattle.std.proofs.Common.{List, subst, arith}
use Rattle.types_resolve.specs.scope.Least.{IsLeast}
use Rattle.types_resolve.proofs.scope.ScopeLeastLemmas.{more_items, all_items}
use Rattle.types_table.proofs.store.StoreHeldLemmas.{Grows-then}
use Rattle.types_wellformed.specs.declared.head_rules.item.NumberedItem.{NumberedItem}
use Rattle.types_wellformed.specs.head_rules.Rules.{ItemsInclude}
use Rattle.types_wellformed.proofs.head_rules.VariantLemmas.{include_kept}
use Rattle.types_wellformed.proofs.head_rules.variant.least_not_variant.Goals as goal

pub loop-items-preserved : goal.loop-items-preserved
loop-items-preserved c =
    let here = subst (λ (items : List NumberedItem). IsLeast (ItemsInclude c.args.decls.now c.loop-items.types items) c.in_ok-found.found)
    c.as_slice.ensures c.in_ok-found.ensures.ok in
    record {
      grown = Grows-then c.args.types.now c.loop-items.types c.least_other.new.types c.loop-items.invariant.grown
          c.in_ok-found.ensures.grown;
      least = more_items c.args.brackets.now (ItemsInclude c.args.decls.now c.args.types.now) c.loop-items.items-index
          c.items-item.result c.loop-items.best c.in_ok-found.found c.earliest-best.result c.loop-items-test.true
          c.items-item.is c.loop-items.invariant.least
          (include_kept c.args.decls.now c.args.types.now c.loop-items.types c.args.brackets.now c.loop-items.items-index
          c.items-item.result c.in_ok-found.found c.loop-items.invariant.grown c.requires.within c.loop-items-test.true
          c.items-item.is here)
          c.earliest-best.ensures;
    }

pub returns-clause-ok : goal.returns-clause-ok
returns-clause-ok c =
    all_items c.args.brackets.now (ItemsInclude c.args.decls.now c.args.types.now) c.loop-items.items-index
    c.loop-items.best (omega arith) c.loop-items-test.false c.loop-items.invariant.least
