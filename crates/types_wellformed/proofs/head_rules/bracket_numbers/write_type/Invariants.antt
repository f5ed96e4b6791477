use Rattle.std.proofs.Common.{◌++◌, List, take}
use Rattle.types_spec.specs.types.TypeNodes.{types_of}
use Rattle.types_spec.specs.types.Occurrence.{PlacedItem}
use Rattle.types_resolve.specs.scope.TypeBrackets.{brackets_known}
use Rattle.types_table.specs.store.Held.{Grows}
use Rattle.types_table.specs.store.Instance.{HasNumbers}
use Rattle.types_wellformed.specs.head_rules.NumberedTypes.{AreAllNumbered}
use Rattle.types_wellformed.proofs.head_rules.bracket_numbers.write_type.Given as goal

abbrev pub invariant-loop-items : goal.invariant-loop-items
invariant-loop-items l = record {
  grown : Grows l.fn.types l.types;
  has : HasNumbers l.types (types_of l.found.nodes.now) l.numbers.items;
  known :
      (all : List (List PlacedItem)) → AreAllNumbered l.fn.types l.fn.brackets all
      → AreAllNumbered l.types l.brackets
      (all ++ brackets_known (types_of l.found.nodes.now) (take l.items-index l.found.brackets));
}
