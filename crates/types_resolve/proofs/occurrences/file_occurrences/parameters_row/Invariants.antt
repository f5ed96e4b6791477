use Rattle.std.proofs.Common.{ℕ, List, [], ◌∷◌, drop}
use Rattle.types_resolve.specs.occurrences.CountedFile.{placed}
use Rattle.types_resolve.proofs.occurrences.OccurrenceLoopLemmas.{RowFollows}
use Rattle.types_resolve.proofs.occurrences.file_occurrences.parameters_row.Given as goal

abbrev pub invariant-loop-name : goal.invariant-loop-name
invariant-loop-name l =
    RowFollows (λ (x : List ℕ). 1) (λ at x. placed at x ∷ []) l.marks l.parameters
    l.row l.rest (drop l.name-index l.parameters)
