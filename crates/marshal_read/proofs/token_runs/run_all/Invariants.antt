use Rattle.std.proofs.Common.{ℕ, List, [], Some, ◌-◌, ◌<◌}
use Rattle.marshal_read.specs.declared.remaining_room.RemainingRoom.{RemainingRoom}
use Rattle.marshal_read.specs.Left.{LeavesRoom, RunsTokens, HasPlenty}
use Rattle.marshal_read.specs.Chunks.{LeadsAs}
use Rattle.marshal_read.proofs.ReaderRunLemmas.{IsUnderway}
use Rattle.marshal_read.proofs.token_runs.run_all.Given as goal

-- If bytes led to the first totals, then the bytes and the tokens read lead to the current state.
-- The room suffices for the next tokens.
abbrev pub invariant-loop-at : goal.invariant-loop-at
invariant-loop-at l = (0 < l.now.pending) × ((limit : ℕ) (taken : List ℕ) (from : RemainingRoom) → LeadsAs (Some l.fn.first) limit taken l.fn.builder [] → LeavesRoom l.fn.first 0 l.fn.first from
    → RunsTokens from from l.fn.begun → HasPlenty from l.fn.most → IsUnderway l.fn.first limit taken l.bytes from l.now l.builder l.at l.most)

abbrev pub decreases-loop-at : goal.decreases-loop-at
decreases-loop-at l = l.most - l.at
