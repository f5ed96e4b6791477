use Rattle.std.proofs.Common.{take}
use Rattle.trees.proofs.search_trees.SearchTreeSettleLemmas.{AreSettledSoFar}
use Rattle.trees.proofs.search_trees.element_span.settle.Given as goal

abbrev pub invariant-loop-o : goal.invariant-loop-o
invariant-loop-o l = AreSettledSoFar l.heap (take l.o-index l.nodes) l.fn.all.items l.all.items
