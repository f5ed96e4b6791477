use Rattle.std.proofs.Common.{ℕ, ◌<◌}
use Rattle.trees.specs.value_verdict.NodeVisits.{IsMarked}
use Rattle.trees.proofs.value_verdict.verdict_search.has_none.Given as goal

abbrev pub invariant-loop-is_tree : goal.invariant-loop-is_tree
invariant-loop-is_tree l = (t : ℕ) → t < l.is_tree-index → ¬ IsMarked l.found t
