use Rattle.std.proofs.Common.{ℕ, List, ◌-◌, ◌≤◌, ◌++◌, length, take}
use Rattle.marshal_read.specs.Chunks.{LeadsChunks}
use Rattle.marshal_read.proofs.chunks.Chunks.feed.Given as goal

-- If bytes led to the state at the call, then the bytes and the consumed part of the chunk lead to
-- the current state.
abbrev pub invariant-loop-taken : goal.invariant-loop-taken
invariant-loop-taken l = (limit : ℕ) (bytes : List ℕ) → LeadsChunks limit bytes l.fn.self → (l.taken ≤ length l.chunk) × LeadsChunks limit (bytes ++ take l.taken l.chunk) l.self

abbrev pub decreases-loop-taken : goal.decreases-loop-taken
decreases-loop-taken l = length l.chunk - l.taken
