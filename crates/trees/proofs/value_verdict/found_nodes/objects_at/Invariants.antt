use Rattle.std.proofs.Common.{◌≡◌, take}
use Rattle.trees.specs.value_verdict.NodePairs.{marked_objects}
use Rattle.trees.proofs.value_verdict.found_nodes.objects_at.Given as goal

abbrev pub invariant-loop-k : goal.invariant-loop-k
invariant-loop-k l = l.nodes.items ≡ marked_objects l.found (take l.k l.typing)
