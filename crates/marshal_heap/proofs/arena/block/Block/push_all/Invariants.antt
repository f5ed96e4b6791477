use Rattle.std.proofs.Common.{◌≡◌, ◌++◌, take}
use Rattle.marshal_heap.proofs.arena.block.Block.push_all.Given as goal

abbrev pub invariant-loop-k : goal.invariant-loop-k
invariant-loop-k l = (l.self.words ≡ l.initial.self.words ++ take l.k l.words) × (l.self.cap ≡ l.initial.self.cap)
