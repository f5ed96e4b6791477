-- The representations and names of a table of types, by type number. A number that is not in the
-- table has no values.
use Rattle.std.specs.Prelude.{ℕ, slice_get, unwrap_or}
use Rattle.types_spec.specs.declared.types.names.Names.{Names}
use Rattle.types_spec.specs.declared.types.shape.ShapeOf.{ShapeOf}
use Rattle.types_spec.specs.types.Names.{no_names}
use Rattle.types_spec.specs.types.Table.{node_or_none}
use Rattle.types_table.specs.declared.type_table.tabled.Tabled.{Tabled}

abbrev pub shape_in : Tabled → ℕ → ShapeOf ℕ
shape_in table i = node_or_none (slice_get table.nodes i)

abbrev pub names_in : Tabled → ℕ → Names
names_in table i = unwrap_or (slice_get table.names i) no_names
