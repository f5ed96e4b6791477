use Rattle.std.proofs.Common.{ℕ, ◌-◌, List, length}
use Rattle.cmd_scan.specs.found_positions.InputParts.{BeginNoValue}
use Rattle.cmd_scan.specs.sweep.Swept.{Takes}
use Rattle.cmd_scan.proofs.sweep.input_parts.sweep_all.Given as goal

-- The first `taken` bytes are parts.
abbrev pub invariant-loop-taken : goal.invariant-loop-taken
invariant-loop-taken l =
    (rest : List ℕ) × Takes l.limit l.at l.bytes l.initial.text.items l.text.items
    (BeginNoValue l.limit) l.taken rest

abbrev pub decreases-loop-taken : goal.decreases-loop-taken
decreases-loop-taken l = length l.bytes - l.taken
