-- Lemmas on the unique tree of a value.
use Rattle.std.proofs.Common.{List, length}
use Rattle.base_data.specs.declared.model.value.Val.{Val}
use Rattle.base_data.specs.declared.model.value.Obj.{Obj}
use Rattle.base_data.specs.model.Graph.{IsValue}
use Rattle.marshal_spec.specs.format.Isomorphism.{IsTreeOf}
use Rattle.marshal_spec.specs.format.Tree.{Tree}
use Rattle.marshal_spec.proofs.canonical.Walk.{has_one_tree}
use Rattle.marshal_heap.specs.heap.Heap.{IsHeap}

-- If a property holds for each tree of a value, then the property holds for the value's unique
-- tree.
pub for_tree : (g : List Obj) (v : Val) (P : Tree → Type 0) → IsHeap g → IsValue (length g) v → ((tree : Tree) → IsTreeOf g v tree → P tree)
    → (tree : Tree) × IsTreeOf g v tree × P tree
for_tree g v P heap is_value each = let t = has_one_tree g v heap.is_graph is_value in (t.tree, t.is, each t.tree t.is)
