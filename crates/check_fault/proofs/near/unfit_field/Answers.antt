use Rattle.std.proofs.Common.{arith}
use Rattle.types_spec.specs.types.Table.{table_shapes}
use Rattle.types_table.specs.type_table.Made.{table_of}
use Rattle.check_fault.proofs.NearLemmas.{field_more, field_found, all_fields}
use Rattle.check_fault.proofs.near.unfit_field.Goals as goal

pub loop-i-init : goal.loop-i-init
loop-i-init c = λ j less. absurd (omega (arith, less))

pub loop-i-preserved : goal.loop-i-preserved
loop-i-preserved c =
    field_more (table_shapes (table_of c.args.tried.now.table.now)) c.args.tried.now.heap.now c.args.tried.now.value c.args.tried.now.at c.loop-i.i
    c.loop-i.invariant c.in_default.ensures

pub returns-in-Some : goal.returns-in-Some
returns-in-Some c =
    field_found (table_of c.args.tried.now.table.now) c.args.tried.now.heap.now c.args.tried.now.value c.args.tried.now.at c.loop-i.i c.in-Some.unfit
    c.loop-i.invariant c.in-Some.ensures

pub returns : goal.returns
returns c =
    all_fields (table_shapes (table_of c.args.tried.now.table.now)) c.args.tried.now.heap.now c.args.tried.now.value c.args.tried.now.at 0 c.loop-i.i
    c.loop-i.invariant (λ i past. c.field_count-count.ensures i (omega (arith, past, c.loop-i-test.false)))
