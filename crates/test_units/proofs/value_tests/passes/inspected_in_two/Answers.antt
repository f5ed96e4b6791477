use Rattle.types_table.specs.type_table.Made.{table_of}
use Rattle.test_units.proofs.value_tests.passes.inspected_in_two.Goals as goal

pub inspected_on-requires : goal.inspected_on-requires
inspected_on-requires c = record { stream_check = c.new-stream_check.ensures.stream_check (table_of c.args.table.now) 1000 }
