use Rattle.std.proofs.Common.{ℕ, ◌-◌, List, length}
use Rattle.cmd_scan.specs.found_positions.InputParts.{AreRefused}
use Rattle.cmd_scan.specs.sweep.Swept.{Takes}
use Rattle.cmd_scan.proofs.sweep.input_parts.sweep.Given as goal

-- The first `decided` bytes are parts.
abbrev pub invariant-loop-decided : goal.invariant-loop-decided
invariant-loop-decided l =
    (rest : List ℕ) × Takes l.limit l.at l.bytes l.initial.text.items l.text.items
    (AreRefused l.limit) l.decided rest

abbrev pub decreases-loop-decided : goal.decreases-loop-decided
decreases-loop-decided l = length l.bytes - l.decided
