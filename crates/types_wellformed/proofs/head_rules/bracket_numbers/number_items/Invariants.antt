use Rattle.std.proofs.Common.{take}
use Rattle.types_spec.specs.types.TypeNodes.{types_of}
use Rattle.types_resolve.specs.scope.TypeBrackets.{items_known}
use Rattle.types_table.specs.store.Held.{Grows}
use Rattle.types_wellformed.specs.head_rules.NumberedTypes.{AreNumbered}
use Rattle.types_wellformed.proofs.head_rules.bracket_numbers.number_items.Given as goal

abbrev pub invariant-loop-item : goal.invariant-loop-item
invariant-loop-item l = record {
  grown : Grows l.initial.types l.types;
  known : AreNumbered l.types l.all (items_known (types_of l.nodes.all.now) (take l.item-index l.items));
}
