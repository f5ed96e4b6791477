use Rattle.std.proofs.Common.{length}
use Rattle.types_table.specs.type_table.Made.{table_of}
use Rattle.check_stream.specs.checker.CheckerState.{IsLeft}
use Rattle.check_stream.proofs.checker.whole.run.Given as goal

-- The bytes before the remaining bytes lead to the current state.
abbrev pub invariant-tokens : goal.invariant-tokens
invariant-tokens l =
    IsLeft (table_of l.table) l.limit l.bytes l.head l.start l.marks.items l.notes.items l.state
    l.rest

abbrev pub decreases-tokens : goal.decreases-tokens
decreases-tokens l = length l.rest
