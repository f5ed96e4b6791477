use Rattle.trees.specs.search_trees.TreeFault.{IsMiscounted}
use Rattle.trees.proofs.search_trees.SearchTreeJudgeLemmas.{NoneBefore}
use Rattle.trees.proofs.search_trees.judging.first_miscounted.Given as goal

abbrev pub invariant-loop-i : goal.invariant-loop-i
invariant-loop-i l = NoneBefore (IsMiscounted l.heap) l.nodes l.i
