use Rattle.types_table.specs.type_table.Made.{table_of}
use Rattle.check_stream.specs.chunk_check.StreamCheck.{IsStreamCheck}
use Rattle.test_units.proofs.value_tests.passes.inspected_after_mismatches.Given as goal

-- The streaming check reads the next value from its first byte on.
abbrev pub invariant-mismatches : goal.invariant-mismatches
invariant-mismatches l = IsStreamCheck (table_of l.table) 1000 l.stream_check
