use Rattle.std.proofs.Common.{take}
use Rattle.trees.specs.search_trees.TreeLevels.{AreLevels}
use Rattle.trees.proofs.search_trees.levels.by_height.Given as goal

abbrev pub invariant-loop-o : goal.invariant-loop-o
invariant-loop-o l = AreLevels l.heap (take l.o-index l.nodes) l.levels.items
