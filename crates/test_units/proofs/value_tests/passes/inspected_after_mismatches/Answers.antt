use Rattle.types_table.specs.type_table.Made.{table_of}
use Rattle.test_units.proofs.value_tests.passes.inspected_after_mismatches.Goals as goal

pub mismatches-init : goal.mismatches-init
mismatches-init c = c.new-stream_check.ensures.stream_check (table_of c.args.table.now) 1000

pub mismatches-preserved : goal.mismatches-preserved
mismatches-preserved c = (rw c.in-Missed.is at c.in_ok-feed.ensures).stream_check (table_of c.args.table.now) 1000
