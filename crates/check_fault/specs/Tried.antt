-- Definitions about a value that is checked against a type.
use Rattle.std.specs.Prelude.{ℕ, List, Option}
use Rattle.base_data.specs.declared.model.value.Val.{Val}
use Rattle.types_spec.specs.types.Fault.{IsMismatch, step}
use Rattle.types_spec.specs.types.Table.{table_shapes, typed_fields}
use Rattle.types_table.specs.type_table.Made.{table_of}
use Rattle.check_fault.specs.declared.tried.Tried.{Tried}
use Rattle.check_fault.specs.Near.{IsThere}

-- `typed_in`: the fields that have types, wildcards included. `needed_in`: the fields that have
-- required types.
abbrev pub typed_in : Tried → List (ℕ × ℕ)
typed_in tried = typed_fields (table_of tried.table.now) tried.heap.now tried.value tried.at

abbrev pub needed_in : Tried → List (ℕ × ℕ)
needed_in tried =
    (table_shapes (table_of tried.table.now)).needs tried.heap.now tried.value tried.at

-- The value and the type after a step to field `i`.
abbrev pub step_from : Tried → ℕ → Option (Val × ℕ)
step_from tried i =
    step (table_shapes (table_of tried.table.now)) tried.heap.now tried.value tried.at i

-- The path leads to a value that does not match its type.
abbrev pub IsMismatchOf : Tried → List ℕ → Type 0
IsMismatchOf tried =
    IsMismatch (table_shapes (table_of tried.table.now)) tried.heap.now tried.value tried.at

-- The path leads to this value and to the type with this number.
abbrev pub LeadsTo : Tried → List ℕ → Val → ℕ → Type 0
LeadsTo tried = IsThere (table_of tried.table.now) tried.heap.now tried.value tried.at
