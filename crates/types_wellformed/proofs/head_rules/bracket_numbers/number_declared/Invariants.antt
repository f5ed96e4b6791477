use Rattle.std.proofs.Common.{take}
use Rattle.std.specs.List.{flat_map}
use Rattle.types_resolve.specs.scope.TypeBrackets.{all_known}
use Rattle.types_table.specs.store.Held.{Grows}
use Rattle.types_wellformed.specs.head_rules.NumberedTypes.{AreAllNumbered}
use Rattle.types_wellformed.proofs.head_rules.bracket_numbers.number_declared.Given as goal

abbrev pub invariant-loop-inside : goal.invariant-loop-inside
invariant-loop-inside l = record {
  grown : Grows l.initial.types l.types;
  known : AreAllNumbered l.types l.brackets (flat_map all_known (take l.inside-index l.found));
}
