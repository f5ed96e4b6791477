use Rattle.std.proofs.Common.{◌++◌, List, take}
use Rattle.types_spec.specs.types.Occurrence.{PlacedItem}
use Rattle.types_resolve.specs.scope.TypeBrackets.{all_known}
use Rattle.types_table.specs.store.Held.{Grows}
use Rattle.types_wellformed.specs.head_rules.NumberedTypes.{AreAllNumbered}
use Rattle.types_wellformed.proofs.head_rules.bracket_numbers.write_types.Given as goal

abbrev pub invariant-loop-inside : goal.invariant-loop-inside
invariant-loop-inside l = record {
  grown : Grows l.initial.types l.types;
  known :
      (all : List (List PlacedItem)) → AreAllNumbered l.fn.types l.fn.brackets all
      → AreAllNumbered l.types l.brackets (all ++ all_known (take l.inside-index l.found));
}
