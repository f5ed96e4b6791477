use Rattle.std.proofs.Common.{drop}
use Rattle.types_resolve.specs.occurrences.CountedFile.{constructor_count}
use Rattle.types_resolve.specs.occurrences.Bodies.{name_of_constructor, records_of, carrying_of, occurrences_of}
use Rattle.types_resolve.proofs.occurrences.OccurrenceLoopLemmas.{Follows, RowFollows}
use Rattle.types_resolve.proofs.occurrences.bodies.write_constructors.Given as goal

abbrev pub invariant-loop-constructor : goal.invariant-loop-constructor
invariant-loop-constructor l = record {
  row :
      RowFollows constructor_count name_of_constructor l.marks l.constructors
      l.row l.rest (drop l.constructor-index l.constructors);
  found :
      Follows constructor_count records_of carrying_of occurrences_of l.initial.found l.marks l.constructors
      l.found l.rest (drop l.constructor-index l.constructors);
}
