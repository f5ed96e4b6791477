use Rattle.types_spec.specs.types.TypeNodes.{types_of}
use Rattle.types_resolve.specs.occurrences.Facts.{AreFacts}
use Rattle.types_resolve.proofs.occurrences.fact.all_facts.Given as goal

abbrev pub invariant-loop-i : goal.invariant-loop-i
invariant-loop-i l = AreFacts (types_of l.nodes) l.i l.facts.items
