use Rattle.std.proofs.Common.{[], List, ℕ, subst}
use Rattle.std.proofs.lemmas.Result.{on_ok_weaker}
use Rattle.types_resolve.specs.occurrences.CountedFile.{record_in_arguments, in_arguments}
use Rattle.types_resolve.specs.occurrences.FoundOccurrences.{AddsFound}
use Rattle.types_resolve.specs.occurrences.Bodies.{records_of, carrying_of, occurrences_of}
use Rattle.types_resolve.proofs.occurrences.OccurrenceFoundLemmas.{carrying_then}
use Rattle.types_resolve.proofs.occurrences.bodies.write_constructor.Goals as goal

pub returns-clause-adds : goal.returns-clause-adds
returns-clause-adds c =
    let ms = c.args.marks.now in
    let d = c.args.constructor.now in
    on_ok_weaker c.write_arguments.result (λ h.
    carrying_then c.args.found.now c.write_carrying.new.found c.write_arguments.new.found (records_of ms d) (carrying_of ms d)
    (occurrences_of ms d) c.in_ok-write_carrying.ensures
    (subst (λ (at : List ℕ). AddsFound c.write_carrying.new.found c.write_arguments.new.found (record_in_arguments at d.arguments) []
    (in_arguments at d.arguments)) c.skip.ensures h)) c.write_arguments.ensures.adds
