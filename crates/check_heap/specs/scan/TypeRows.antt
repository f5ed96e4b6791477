-- The table of types that decides matches.
use Rattle.types_spec.specs.types.Table.{Table}
use Rattle.types_table.specs.type_table.Made.{table_of}
use Rattle.check_heap.specs.declared.scan.type_rows.Fitting.{Fitting}

abbrev pub table_in : Fitting → Table
table_in fitting = table_of fitting.table.now
