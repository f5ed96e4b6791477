use Rattle.check_heap.specs.fits.Needs.{needs_in}
use Rattle.types_table.specs.type_table.Made.{table_of}
use Rattle.check_fault.proofs.NearLemmas.{typed_are, nothing_below}
use Rattle.check_fault.proofs.near.unfit_field_of.Goals as goal

pub returns-in_default : goal.returns-in_default
returns-in_default c =
    nothing_below (table_of c.args.tried.now.table.now) c.args.tried.now.heap.now c.args.tried.now.value c.args.tried.now.at c.shape.result.now c.shape.ensures 0
    c.in_default.ensures

pub unfit_field-requires : goal.unfit_field-requires
unfit_field-requires c = record {
  needs =
      typed_are (table_of c.args.tried.now.table.now) c.args.tried.now.heap.now c.args.tried.now.value c.args.tried.now.at c.shape.result.now c.shape.ensures
      (needs_in c.in-Some.needs) c.in-Some.ensures;
}
