use Rattle.std.proofs.Common.{ℕ, ◌≡◌, ◌<◌, length}
use Rattle.trees.specs.search_trees.TreeLevels.{Has}
use Rattle.trees.specs.search_trees.Span.{IsSettled}
use Rattle.trees.proofs.search_trees.levels.settle_all.Given as goal

abbrev pub invariant-loop-level : goal.invariant-loop-level
invariant-loop-level l =
    (length l.all.items ≡ length l.heap)
    × ((g o : ℕ) → g < l.level-index → Has l.levels g o → IsSettled l.heap l.all.items o)
