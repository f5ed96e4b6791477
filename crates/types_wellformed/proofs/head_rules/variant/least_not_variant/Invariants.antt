use Rattle.types_resolve.specs.scope.Least.{IsLeast}
use Rattle.types_resolve.proofs.scope.ScopeLeastLemmas.{Before, AtItem}
use Rattle.types_table.specs.store.Held.{Grows}
use Rattle.types_wellformed.specs.head_rules.Rules.{ItemsInclude}
use Rattle.types_wellformed.proofs.head_rules.variant.least_not_variant.Given as goal

abbrev pub invariant-loop-items : goal.invariant-loop-items
invariant-loop-items l = record {
  grown : Grows l.initial.types l.types;
  least : IsLeast (Before (AtItem l.brackets (ItemsInclude l.decls l.initial.types)) l.items-index) l.best;
}
