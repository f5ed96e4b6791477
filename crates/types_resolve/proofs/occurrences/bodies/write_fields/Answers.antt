use Rattle.std.proofs.Common.{◌≡◌, ◌∙◌, ◌++◌, ◌∷◌, List, ℕ, [], false, drop, ap, subst}
use Rattle.std.proofs.lemmas.List.{drop-drop}
use Rattle.types_spec.specs.declared.types.decl.Field.{Field}
use Rattle.types_spec.specs.types.Occurrence.{Placed}
use Rattle.types_resolve.specs.occurrences.Counted.{in_type}
use Rattle.types_resolve.specs.occurrences.CountedFile.{along, field_count, in_field, placed, type_count}
use Rattle.types_resolve.specs.occurrences.FoundOccurrences.{AddsFound}
use Rattle.types_resolve.proofs.occurrences.OccurrenceFoundLemmas.{then_row}
use Rattle.types_resolve.proofs.occurrences.OccurrenceLoopLemmas.{Follows-step, Follows-plain, RowFollows-step, RowFollows-end}
use Rattle.types_resolve.proofs.occurrences.bodies.write_fields.Goals as goal

pub loop-field-preserved : goal.loop-field-preserved
loop-field-preserved c =
    let f = c.field-item.result in
    let rest = c.loop-field.rest.now in
    let left : c.in_ok-rest.rest.now ≡ drop (field_count f) rest = c.in_ok-rest.ensures.rest
    ∙ ap (drop (type_count f.ty)) c.skip.ensures ∙ drop-drop (type_count f.ty) 1 rest in
    record {
      row = RowFollows-step field_count (λ at (f : Field). placed at f.name ∷ []) c.args.marks.now c.args.fields.now
          c.loop-field.row c.push.new.self rest c.in_ok-rest.rest.now f c.loop-field.field-index c.loop-field-test.true
          c.field-item.is c.loop-field.invariant.row
          (c.in_ok-push.ensures.ok ∙ ap (λ (p : Placed). c.loop-field.row ++ p ∷ []) c.in_ok-placed.ensures) left;
      found = Follows-step field_count (λ at x. []) (λ at x. []) in_field c.args.found.now c.args.marks.now
          c.args.fields.now c.loop-field.found c.write_type.new.found rest c.in_ok-rest.rest.now f c.loop-field.field-index
          c.loop-field-test.true c.field-item.is c.loop-field.invariant.found
          (subst (λ (ms : List ℕ). AddsFound c.loop-field.found c.write_type.new.found [] [] (in_type ms false f.ty))
          c.skip.ensures c.in_ok-rest.ensures.adds) left;
    }

pub returns-clause-adds : goal.returns-clause-adds
returns-clause-adds c =
    let seen = along field_count in_field c.args.marks.now c.args.fields.now in
    subst (λ (row : List Placed). AddsFound c.args.found.now c.write_names.new.found (row ∷ []) [] seen)
    (RowFollows-end field_count (λ at (f : Field). placed at f.name ∷ []) c.args.marks.now c.args.fields.now
    c.loop-field.row c.loop-field.rest.now c.loop-field.field-index c.loop-field-test.false c.loop-field.invariant.row)
    (then_row c.args.found.now c.loop-field.found c.write_names.new.found [] [] seen c.loop-field.row
    (Follows-plain field_count in_field c.args.found.now c.args.marks.now c.args.fields.now c.loop-field.found
    c.loop-field.rest.now c.loop-field.field-index c.loop-field-test.false c.loop-field.invariant.found)
    c.in_ok-write_names.ensures)
