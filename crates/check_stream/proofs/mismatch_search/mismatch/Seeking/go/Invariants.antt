use Rattle.std.proofs.Common.{◌-◌, length}
use Rattle.types_table.specs.type_table.Made.{table_of}
use Rattle.check_stream.specs.mismatch_search.Find.{IsSought}
use Rattle.check_stream.proofs.mismatch_search.mismatch.Seeking.go.Given as goal

-- The bytes up to the offset that was reached lead to the state of the search.
abbrev pub invariant-tokens : goal.invariant-tokens
invariant-tokens l = IsSought (table_of l.table) l.limit l.bytes l.self

-- Each token consumes at least one byte.
abbrev pub decreases-tokens : goal.decreases-tokens
decreases-tokens l = length l.bytes - l.self.at
