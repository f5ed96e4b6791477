use Rattle.types_resolve.proofs.occurrences.OccurrenceMarkLemmas.{AreMarksTo}
use Rattle.types_resolve.proofs.occurrences.marked.marks.Given as goal

abbrev pub invariant-loop-i : goal.invariant-loop-i
invariant-loop-i l = AreMarksTo l.lexemes l.i l.fresh l.marked.items
