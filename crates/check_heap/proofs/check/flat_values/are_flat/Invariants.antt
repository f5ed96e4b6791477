use Rattle.std.proofs.Common.{◌≡◌, drop}
use Rattle.base_data.specs.declared.model.value.Val.TheVariants as vals
use Rattle.types_spec.specs.types.Table.{typed_fields}
use Rattle.types_table.specs.type_table.Made.{table_of}
use Rattle.check_heap.proofs.check.CheckFlatLemmas.{IsPartly}
use Rattle.check_heap.specs.check.FlatValues.{last_of_all}
use Rattle.check_heap.proofs.check.flat_values.are_flat.Given as goal

-- The first `k` parts are justified, and the answer depends on whether the remaining parts are
-- flat.
abbrev pub invariant-loop-k : goal.invariant-loop-k
invariant-loop-k l =
    let table = table_of l.table in
    let parts = typed_fields table l.heap (vals.Ref l.object) 0 in
    IsPartly table l.heap l.object l.last l.k
    × (last_of_all table l.heap l.object (drop l.k parts) l.last ≡ last_of_all table l.heap l.object parts l.object)
