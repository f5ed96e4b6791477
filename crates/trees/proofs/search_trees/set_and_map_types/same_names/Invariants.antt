use Rattle.trees.proofs.search_trees.SearchTreeNameLemmas.{SameFrom, borrowed}
use Rattle.trees.proofs.search_trees.set_and_map_types.same_names.Given as goal

abbrev pub invariant-loop-i : goal.invariant-loop-i
invariant-loop-i l = SameFrom l.own (borrowed l.wanted) l.i
