use Rattle.trees.specs.search_trees.TreeFault.{IsUnbalanced}
use Rattle.trees.proofs.search_trees.SearchTreeJudgeLemmas.{NoneBefore}
use Rattle.trees.proofs.search_trees.judging.first_unbalanced.Given as goal

abbrev pub invariant-loop-i : goal.invariant-loop-i
invariant-loop-i l = NoneBefore (IsUnbalanced l.heap) l.nodes l.i
