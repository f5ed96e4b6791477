use Rattle.std.proofs.Common.{ℕ, List, [], Some, ◌-◌, length}
use Rattle.marshal_read.specs.Chunks.{LeadsAs}
use Rattle.marshal_read.specs.Left.{TakesAll}
use Rattle.marshal_read.proofs.common.take_all.Given as goal

-- If bytes led to the first totals, then the bytes and the tokens read lead to the current state.
abbrev pub invariant-loop-at : goal.invariant-loop-at
invariant-loop-at l = (limit : ℕ) (taken : List ℕ) → LeadsAs (Some l.fn.first) limit taken l.fn.builder [] → TakesAll l.fn.first 0 limit taken l.bytes l.left l.builder l.at

abbrev pub decreases-loop-at : goal.decreases-loop-at
decreases-loop-at l = length l.bytes - l.at
