use Rattle.std.proofs.Common.{◌≤◌, List, length, drop}
use Rattle.marshal_spec.specs.format.Token.{Token}
use Rattle.types_table.specs.type_table.Made.{table_of}
use Rattle.check_stream.specs.checker.Again.{EncodeAll, AreFields}
use Rattle.check_stream.proofs.checker.flat_blocks.are_fields.Given as goal

-- If the remaining fields are flat and have their types, then all fields are flat and have their
-- types.
abbrev pub invariant-fields : goal.invariant-fields
invariant-fields l =
    (l.at ≤ length l.prefix)
    × (((ts : List Token) → EncodeAll ts (drop l.at l.prefix) → AreFields (table_of l.table) l.types l.object (drop l.ty-index l.fields) ts)
    → (ts : List Token) → EncodeAll ts (drop l.start l.prefix) → AreFields (table_of l.table) l.types l.object l.fields ts)
