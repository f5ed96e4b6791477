use Rattle.std.proofs.Common.{◌∙◌, ◌++◌, ◌∷◌, List, [], ap, subst}
use Rattle.types_spec.specs.types.Occurrence.{Placed}
use Rattle.types_resolve.specs.occurrences.CountedFile.{along, constructor_count}
use Rattle.types_resolve.specs.occurrences.FoundOccurrences.{AddsFound}
use Rattle.types_resolve.specs.occurrences.Bodies.{name_of_constructor, records_of, carrying_of, occurrences_of}
use Rattle.types_resolve.proofs.occurrences.OccurrenceFoundLemmas.{then_row}
use Rattle.types_resolve.proofs.occurrences.OccurrenceLoopLemmas.{Follows-step, Follows-end, RowFollows-step, RowFollows-end}
use Rattle.types_resolve.proofs.occurrences.bodies.write_constructors.Goals as goal

pub loop-constructor-preserved : goal.loop-constructor-preserved
loop-constructor-preserved c =
    let d = c.constructor-item.result in
    let i = c.loop-constructor.constructor-index in
    let ms = c.args.marks.now in
    let all = c.args.constructors.now in
    let rest = c.loop-constructor.rest.now in
    record {
      row = RowFollows-step constructor_count name_of_constructor ms all c.loop-constructor.row c.push.new.self rest
          c.in_ok-rest.rest.now d i c.loop-constructor-test.true c.constructor-item.is c.loop-constructor.invariant.row
          (c.in_ok-push.ensures.ok ∙ ap (λ (p : Placed). c.loop-constructor.row ++ p ∷ []) c.in_ok-placed.ensures)
          c.in_ok-rest.ensures.rest;
      found = Follows-step constructor_count records_of carrying_of occurrences_of c.args.found.now ms all
          c.loop-constructor.found c.write_constructor.new.found rest c.in_ok-rest.rest.now d i c.loop-constructor-test.true
          c.constructor-item.is c.loop-constructor.invariant.found c.in_ok-rest.ensures.adds c.in_ok-rest.ensures.rest;
    }

pub returns-clause-adds : goal.returns-clause-adds
returns-clause-adds c =
    let ms = c.args.marks.now in
    let all = c.args.constructors.now in
    let rows = along constructor_count records_of ms all in
    let carrying = along constructor_count carrying_of ms all in
    let seen = along constructor_count occurrences_of ms all in
    subst (λ (row : List Placed). AddsFound c.args.found.now c.write_names.new.found (rows ++ row ∷ []) carrying seen)
    (RowFollows-end constructor_count name_of_constructor ms all c.loop-constructor.row c.loop-constructor.rest.now
    c.loop-constructor.constructor-index c.loop-constructor-test.false c.loop-constructor.invariant.row)
    (then_row c.args.found.now c.loop-constructor.found c.write_names.new.found rows carrying seen c.loop-constructor.row
    (Follows-end constructor_count records_of carrying_of occurrences_of c.args.found.now ms all c.loop-constructor.found
    c.loop-constructor.rest.now c.loop-constructor.constructor-index c.loop-constructor-test.false
    c.loop-constructor.invariant.found) c.in_ok-write_names.ensures)
