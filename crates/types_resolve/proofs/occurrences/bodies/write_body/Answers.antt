use Rattle.std.proofs.Common.{List, ◌∷◌, ◌++◌, [], subst}
use Rattle.std.proofs.lemmas.Result.{on_ok_weaker}
use Rattle.types_spec.specs.declared.types.decl.Field.{Field}
use Rattle.types_spec.specs.declared.types.decl.Constructor.{Constructor}
use Rattle.types_resolve.specs.occurrences.CountedFile.{along, field_count, in_field, names_of_fields, constructor_count}
use Rattle.types_resolve.specs.occurrences.FoundOccurrences.{AddsFound}
use Rattle.types_resolve.specs.occurrences.Bodies.{records_of, carrying_of, occurrences_of, constructor_names}
use Rattle.types_resolve.proofs.occurrences.BodyLemmas.{adds_abbreviation, adds_record, adds_variant}
use Rattle.types_resolve.proofs.occurrences.bodies.write_body.Goals as goal

pub returns-in_ok-write_names-in-Abbreviation-clause-adds : goal.returns-in_ok-write_names-in-Abbreviation-clause-adds
returns-in_ok-write_names-in-Abbreviation-clause-adds c =
    adds_abbreviation c.args.marks.now c.args.body.now c.in-Abbreviation.ty c.args.found.now c.write_type.new.found
    c.write_names.new.found c.new.result c.in-Abbreviation.is c.in_ok-rest-in-Abbreviation.ensures.adds c.new.ensures
    c.in_ok-write_names-in-Abbreviation.ensures

pub returns-in_ok-write_names-in-Record-clause-adds : goal.returns-in_ok-write_names-in-Record-clause-adds
returns-in_ok-write_names-in-Record-clause-adds c =
    let ms = c.args.marks.now in
    adds_record ms c.args.body.now c.in-Record.fields c.args.found.now c.write_fields.new.found c.write_names-in-Record.new.found
    c.new-in-Record.result c.in-Record.is
    (subst (λ (fields : List Field). AddsFound c.args.found.now c.write_fields.new.found (names_of_fields ms fields ∷ []) []
    (along field_count in_field ms fields)) c.as_slice.ensures c.in_ok-rest-in-Record.ensures.adds)
    c.new-in-Record.ensures c.in_ok-write_names-in-Record.ensures

pub returns-in-Variant-clause-adds : goal.returns-in-Variant-clause-adds
returns-in-Variant-clause-adds c =
    let ms = c.args.marks.now in
    on_ok_weaker c.write_constructors.result (λ h.
    adds_variant ms c.args.body.now c.in-Variant.all c.args.found.now c.write_constructors.new.found c.in-Variant.is
    (subst (λ (all : List Constructor). AddsFound c.args.found.now c.write_constructors.new.found
    (along constructor_count records_of ms all ++ constructor_names ms all ∷ [])
    (along constructor_count carrying_of ms all) (along constructor_count occurrences_of ms all))
    c.as_slice-in-Variant.ensures h)) c.write_constructors.ensures.adds
