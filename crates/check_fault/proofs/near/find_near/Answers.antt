use Rattle.check_heap.specs.fits.Needs.{needs_in}
use Rattle.types_table.specs.type_table.Made.{table_of}
use Rattle.check_fault.proofs.NearLemmas.{near_root, near_field, typed_are, fits_by}
use Rattle.check_fault.proofs.near.find_near.Goals as goal

pub returns-in_default : goal.returns-in_default
returns-in_default c =
    near_root (table_of c.args.table.now) c.args.value.now.heap.now c.args.value.now.root c.shape.result.now c.shape.ensures c.in_default.ensures
    c.args.value.now.value c.holds.ensures.lawful

pub unfit_field-requires : goal.unfit_field-requires
unfit_field-requires c = record {
  needs =
      typed_are (table_of c.args.table.now) c.args.value.now.heap.now c.args.value.now.root 0 c.shape.result.now c.shape.ensures
      (needs_in c.in-Some.needs) c.in-Some.ensures;
}

pub returns-in-Some-unfit_field : goal.returns-in-Some-unfit_field
returns-in-Some-unfit_field c =
    near_field (table_of c.args.table.now) c.args.value.now.heap.now c.args.value.now.root c.in-Some-unfit_field.unfit
    (fits_by (table_of c.args.table.now) c.args.value.now.heap.now c.args.value.now.root 0 c.shape.result.now c.shape.ensures
    (needs_in c.in-Some.needs) c.in-Some.ensures)
    c.in-Some-unfit_field.ensures

pub near_part-requires-clause-needs : goal.near_part-requires-clause-needs
near_part-requires-clause-needs c =
    typed_are (table_of c.args.table.now) c.args.value.now.heap.now c.args.value.now.root 0 c.shape.result.now c.shape.ensures
    (needs_in c.in-Some.needs) c.in-Some.ensures

pub near_part-requires-clause-fits : goal.near_part-requires-clause-fits
near_part-requires-clause-fits c =
    fits_by (table_of c.args.table.now) c.args.value.now.heap.now c.args.value.now.root 0 c.shape.result.now c.shape.ensures
    (needs_in c.in-Some.needs) c.in-Some.ensures

pub near_part-requires-clause-fields : goal.near_part-requires-clause-fields
near_part-requires-clause-fields c = c.in-None.ensures
