use Rattle.trees.specs.value_verdict.NodeVisits.{AreNodeVisits, IsMarked}
use Rattle.trees.proofs.value_verdict.tree_nodes.nodes_among.Given as goal

abbrev pub invariant-loop-k : goal.invariant-loop-k
invariant-loop-k l = AreNodeVisits (IsMarked l.found) l.all l.k l.nodes
