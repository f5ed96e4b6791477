use Rattle.std.proofs.Common.{◌-◌, ◌≤◌, ◌++◌, length, take}
use Rattle.marshal_spec.specs.format.Prefix.{IsPrefix}
use Rattle.marshal_read.specs.Reader.{IsReader, LeadsReader}
use Rattle.cmd_scan.proofs.command.last.find_last.Given as goal

-- The held bytes and the first `taken` bytes of the chunk are still a prefix of a value.
abbrev pub invariant-loop-taken : goal.invariant-loop-taken
invariant-loop-taken l =
    (l.taken ≤ length l.chunk) × IsReader l.reader
    × LeadsReader l.limit (l.held ++ take l.taken l.chunk) l.reader
    × IsPrefix l.limit (l.held ++ take l.taken l.chunk)

abbrev pub decreases-loop-taken : goal.decreases-loop-taken
decreases-loop-taken l = length l.chunk - l.taken
