use Rattle.types_spec.specs.types.Table.{table_shapes}
use Rattle.types_table.specs.type_table.Made.{table_of}
use Rattle.check_fault.proofs.NearLemmas.{found_behind, nothing_behind}
use Rattle.check_fault.proofs.near.unfit_in.Goals as goal

pub returns-in_default : goal.returns-in_default
returns-in_default c =
    nothing_behind (table_shapes (table_of c.args.tried.now.table.now)) c.args.tried.now.heap.now c.args.tried.now.value c.args.tried.now.at c.args.i 1
    c.in_default.ensures.position

pub returns : goal.returns
returns c =
    found_behind (table_of c.args.tried.now.table.now) c.args.tried.now.heap.now c.args.tried.now.value c.args.tried.now.at c.args.i c.in-Some.value c.in-Some.at
    c.unfit_field_of.result c.in-Some.ensures.position c.unfit_field_of.ensures
