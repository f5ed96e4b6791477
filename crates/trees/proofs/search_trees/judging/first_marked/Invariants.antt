use Rattle.trees.specs.search_trees.Span.{IsMarked}
use Rattle.trees.proofs.search_trees.SearchTreeJudgeLemmas.{NoneBefore}
use Rattle.trees.proofs.search_trees.judging.first_marked.Given as goal

abbrev pub invariant-loop-i : goal.invariant-loop-i
invariant-loop-i l = NoneBefore (IsMarked l.all) l.nodes l.i
