use Rattle.types_resolve.specs.scope.Least.{IsLeast}
use Rattle.types_resolve.proofs.scope.ScopeLeastLemmas.{Before, AtItem}
use Rattle.types_table.specs.store.Held.{Grows}
use Rattle.types_wellformed.specs.head_rules.Rules.{IncludesOtherAt}
use Rattle.types_wellformed.proofs.head_rules.variant.least_other.Given as goal

abbrev pub invariant-loop-item : goal.invariant-loop-item
invariant-loop-item l = record {
  grown : Grows l.initial.types l.types;
  least : IsLeast (Before (AtItem l.items (IncludesOtherAt l.decls l.initial.types)) l.item-index) l.best;
}
