use Rattle.std.proofs.Common.{[], drop, false}
use Rattle.types_resolve.specs.occurrences.Counted.{in_type}
use Rattle.types_resolve.specs.occurrences.CountedFile.{type_count}
use Rattle.types_resolve.proofs.occurrences.OccurrenceLoopLemmas.{Follows}
use Rattle.types_resolve.proofs.occurrences.bodies.write_types.Given as goal

abbrev pub invariant-loop-ty : goal.invariant-loop-ty
invariant-loop-ty l =
    Follows type_count (λ at x. []) (λ at x. []) (λ at t. in_type at false t) l.initial.found l.marks l.types
    l.found l.rest (drop l.ty-index l.types)
