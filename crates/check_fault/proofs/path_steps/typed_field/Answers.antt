use Rattle.check_heap.specs.fits.Needs.{needs_in}
use Rattle.types_table.specs.type_table.Made.{table_of}
use Rattle.check_fault.proofs.FaultStepLemmas.{found_below}
use Rattle.check_fault.proofs.path_steps.typed_field.Goals as goal

pub returns-in-Some-clause-number : goal.returns-in-Some-clause-number
returns-in-Some-clause-number c =
    found_below (table_of c.args.tried.now.table.now) c.args.tried.now.heap.now c.args.tried.now.value c.args.tried.now.at c.shape.result.now c.shape.ensures
    c.holds.ensures.lawful c.args.i (needs_in c.in-Some.needs) c.type_of.result c.in-Some.ensures c.type_of.ensures
