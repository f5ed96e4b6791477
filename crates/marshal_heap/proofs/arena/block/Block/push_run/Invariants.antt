use Rattle.std.proofs.Common.{◌≡◌, ◌++◌, replicate}
use Rattle.marshal_heap.proofs.arena.block.Block.push_run.Given as goal

abbrev pub invariant-loop-k : goal.invariant-loop-k
invariant-loop-k l = (l.self.words ≡ l.initial.self.words ++ replicate l.k l.w) × (l.self.cap ≡ l.initial.self.cap)
