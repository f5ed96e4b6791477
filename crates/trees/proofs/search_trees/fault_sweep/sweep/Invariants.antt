use Rattle.std.proofs.Common.{◌≡◌, ◌-◌, length}
use Rattle.trees.specs.search_trees.Sweep.{AreKnown, IsMostSevereFrom}
use Rattle.trees.proofs.search_trees.fault_sweep.sweep.Given as goal

abbrev pub invariant-loop-k : goal.invariant-loop-k
invariant-loop-k l =
    (length l.all.items ≡ length l.heap)
    × (AreKnown l.heap l.all.items
    × IsMostSevereFrom l.heap l.nodes (length l.nodes - l.k) l.most_severe)
