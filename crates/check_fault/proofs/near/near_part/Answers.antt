use Rattle.types_table.specs.type_table.Made.{table_of}
use Rattle.check_fault.proofs.NearLemmas.{near_part}
use Rattle.check_fault.proofs.near.near_part.Goals as goal

pub returns-in-Some : goal.returns-in-Some
returns-in-Some c =
    near_part (table_of c.args.table.now) c.args.value.now.heap.now c.args.value.now.root c.in-Some.i c.in-Some.unfit c.requires.fits
    c.requires.fields c.in-Some.ensures
