use Rattle.std.proofs.Common.{length, ◌≤◌}
use Rattle.types_table.specs.type_table.Made.{table_of}
use Rattle.check_stream.specs.checker.Fast.{held}
use Rattle.check_stream.specs.checker.CheckerState.{IsLeft}
use Rattle.check_stream.proofs.checker.listed_tokens.run_listed.Given as goal

-- The bytes before the remaining bytes lead to the current state, and the number of remaining bytes
-- does not grow.
abbrev pub invariant-listed : goal.invariant-listed
invariant-listed l =
    IsLeft (table_of l.table) l.limit l.bytes l.head l.start l.marks l.notes
    (held l.now l.state.positions.waiting l.state.types l.words) l.left
    × (length l.left ≤ length l.rest)

abbrev pub decreases-listed : goal.decreases-listed
decreases-listed l = length l.left
